-- The sale question, asked of a batch: its refusal, or what is asked of one with no fault.
use mathlib.Core.Path.{◌≡◌, ◌∙◌}
use mathlib.Core.Bool.{Bool, true, false, not}
use mathlib.Core.List.{List}
use Prim.Native.Nat.{ℕ}
use lib.Dec.{eqb}
use Rattle.laws.specs.Numbered.{Numbered}
use Rattle.thirteen.specs.Batch.{Batch, records_of}
use Rattle.fault.specs.Answers.{numbered_fault}
use Rattle.fault.specs.declared.Fault.{Fault}
use Rattle.batch.specs.Order.{fault_of}
use Rattle.batch.proofs.VerdictLaws.{no_fault, a_fault}
use Rattle.ticket.specs.Plain.{plain_sale}
use Rattle.selling.specs.Answers.{sale_answer}
use Rattle.selling.proofs.SellingLaws.{sale_plain}

-- A BATCH. What was found of it, and whether it is nothing.
module _ (b : Batch) (f : Fault) (e : numbered_fault f ≡ fault_of b) (t : Bool) (d : t ≡ eqb (numbered_fault f).number 0) where
  -- its own refusal comes first, else the records are asked
  module _ (line trip date month year from to : ℕ) (holidays : List ℕ) where
    pub sale_refused : not t ≡ true → numbered_fault f ≡ sale_answer b line trip date month year from to holidays
    unfolding sale_answer
    sale_refused h = rw (a_fault b f e t d h) e

    pub sale_told : not t ≡ false
        → {x : Numbered} → x ≡ plain_sale (records_of b 3) (records_of b 5) (records_of b 6) (records_of b 7) (records_of b 8) (records_of b 10) line trip date month year from to holidays
        → x ≡ sale_answer b line trip date month year from to holidays
    sale_told h g = g ∙ sale_plain b (no_fault b f e t d h) line trip date month year from to holidays
