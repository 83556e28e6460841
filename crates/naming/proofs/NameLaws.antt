-- The batch whose stops are asked: its refusal comes first.
use mathlib.Core.Path.{◌≡◌, ◌∙◌}
use mathlib.Core.Bool.{Bool, true, false, not}
use mathlib.Core.List.{List, []}
use Prim.Native.Nat.{ℕ, ◌≤◌}
use native.Mathlib.Omega.{arith}
use lib.Dec.{eqb}
use lib.ListN.{length}
use Rattle.laws.specs.Numbered.{Numbered, answered}
use Rattle.file.specs.Format.{Text}
use Rattle.lookup.specs.Ways.{Ways}
use Rattle.thirteen.specs.Batch.{Batch, file_in, records_of}
use Rattle.coded.specs.Ready.{Ready}
use Rattle.trips.proofs.ReadyLaws.{ready_file}
use Rattle.fault.specs.Answers.{numbered_fault}
use Rattle.fault.specs.declared.Fault.{Fault}
use Rattle.batch.specs.Order.{fault_of}
use Rattle.batch.proofs.AcceptedLaws.{standing}
use Rattle.batch.proofs.VerdictLaws.{no_fault, a_fault}
use Rattle.byname.specs.Counting.{count_on}
use Rattle.byname.proofs.CountLaws.{count_on_is}
use Rattle.naming.specs.Names.{name_answer}

-- What was found of it, and whether it is nothing.
module _ (b : Batch) (town part place : Text) (f : Fault) (e : numbered_fault f ≡ fault_of b) (t : Bool) (d : t ≡ eqb (numbered_fault f).number 0) where
  -- its own refusal comes first
  pub answer_refused : not t ≡ true → numbered_fault f ≡ name_answer b town part place
  unfolding name_answer
  answer_refused h = rw (a_fault b f e t d h) e

  -- else its stops are asked
  pub answer_is : not t ≡ false → {x : Numbered} → x ≡ count_on town part place 0 0 (records_of b 2) → x ≡ name_answer b town part place
  unfolding name_answer
  answer_is h g = rw (no_fault b f e t d h) (g ∙ count_on_is town part place (records_of b 2))

-- and its stops can be asked
pub stops_ready : (b : Batch) (order ways : List ℕ) → fault_of b ≡ answered [] → Ways b order ways → 33 ≤ length ways → Ready 2 (file_in b 2) order ways
stops_ready b order ways e w h =
    let k = standing b e in
    ready_file b 2 order ways (omega arith, omega arith) k.sound k.linking.stops_key w h
