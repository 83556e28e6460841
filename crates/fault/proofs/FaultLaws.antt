-- What a fault's number says: 0 is that of none.
use mathlib.Core.Path.{◌≡◌, refl, sym, ◌∙◌}
use mathlib.Core.Bool.{Bool, true, false, not}
use mathlib.Core.List.{[]}
use native.Mathlib.Omega.{arith}
use lib.Dec.{eqb}
use borrow.Author.Tests.{eqb-true, eqb-false, not-true, not-false}
use Rattle.laws.specs.Numbered.{answered}
use Rattle.file.proofs.AnswerLaws.{number_some}
use Rattle.fault.specs.Answers.{numbered_fault}
use Rattle.fault.specs.declared.Fault.{Fault}

-- no fault but `Fault::None` has number 0
pub none_zero : (f : Fault) → (numbered_fault f).number ≡ 0 → numbered_fault f ≡ answered []
unfolding numbered_fault
none_zero Fault.None e = refl
none_zero (Fault.File why) e = absurd (number_some why e)
none_zero (Fault.Version k f) e = absurd (omega arith)
none_zero (Fault.Unkind file k f) e = absurd (omega arith)
none_zero (Fault.Broken file k) e = absurd (omega arith)
none_zero (Fault.Used file k) e = absurd (omega arith)
none_zero (Fault.Dangling file k f) e = absurd (omega arith)
none_zero (Fault.Misplaced file k f) e = absurd (omega arith)
none_zero (Fault.Days k) e = absurd (omega arith)
none_zero (Fault.Stops k) e = absurd (omega arith)

-- what the test of a fault says of its number
module _ (f : Fault) (r : Bool) (t : r ≡ eqb (numbered_fault f).number 0) where
  pub is_some : not r ≡ true → (numbered_fault f).number ≡ 0 → ⊥
  is_some h = eqb-false (numbered_fault f).number 0 (sym t ∙ not-true r h)

  pub is_zero : not r ≡ false → (numbered_fault f).number ≡ 0
  is_zero h = eqb-true (numbered_fault f).number 0 (sym t ∙ not-false r h)
