-- A trip's stop, asked of a batch: its refusal, or what its line's view says.
use mathlib.Core.Path.{◌≡◌}
use mathlib.Core.Bool.{Bool, true, false, not}
use Prim.Native.Nat.{ℕ}
use lib.Dec.{eqb}
use Rattle.laws.specs.Numbered.{Numbered}
use Rattle.thirteen.specs.Batch.{Batch, records_of}
use Rattle.fault.specs.Answers.{numbered_fault}
use Rattle.batch.specs.Order.{fault_of}
use Rattle.fault.specs.declared.Fault.{Fault}
use Rattle.batch.proofs.VerdictLaws.{no_fault, a_fault}
use Rattle.stopping.specs.Plain.{plain_stop}
use Rattle.stopping.proofs.StoppingLaws.{nth_view}
use Rattle.calls.specs.Answers.{stop_answer}

module _ (b : Batch) (line trip : ℕ) where
  module _ (n : ℕ) where
    -- what was found of the batch, and whether it is nothing
    module _ (f : Fault) (e : numbered_fault f ≡ fault_of b) (t : Bool) (d : t ≡ eqb (numbered_fault f).number 0) where
      pub answer_refused : not t ≡ true → numbered_fault f ≡ stop_answer b line trip n
      unfolding stop_answer
      answer_refused h = rw (a_fault b f e t d h) e

      pub answer_is : not t ≡ false → {x : Numbered} → x ≡ plain_stop (records_of b 3) (records_of b 6) (records_of b 7) (records_of b 8) line trip n
          → x ≡ stop_answer b line trip n
      unfolding stop_answer plain_stop
      answer_is h g = rw (no_fault b f e t d h, ← nth_view b line trip n) g
