-- Which line thirteen files have.
use mathlib.Core.Path.{◌≡◌, sym, ap, ◌∙◌}
use mathlib.Core.Bool.{Bool, true, false}
use mathlib.Core.List.{List}
use Prim.Native.Nat.{ℕ}
use native.Mathlib.Omega.{arith}
use borrow.Author.Tests.{eqb-false}
use lib.Dec.{eqb, leb}
use lib.ListN.{length}
use Rattle.laws.specs.Tests.{either}
use Rattle.thirteen.specs.Batch.{Batch}
use Rattle.together.specs.Lengths.{bytes_together}
use Rattle.verdictline.specs.VerdictLine.{verdict_line}
use Rattle.verdictline.specs.Places.{Judged}
use Rattle.batch.specs.Order.{fault_of}
use Rattle.batch.specs.Verdicts.{counts_of, verdict_of}
use Rattle.wording.specs.Line.{too_large, program_line}

-- the verdict of a batch accepts with counts, or refuses
pub verdict_judged : (b : Batch) → Judged (verdict_of b)
unfolding verdict_of counts_of
verdict_judged b =
    either (eqb (fault_of b).number 0)
    (λ e. rw e (λ n v. let z = ap (λ (vs : List ℕ). length vs) v in absurd (omega arith)))
    (λ e. rw e (λ n v. eqb-false (fault_of b).number 0 e n))

module _ (b : Batch) (t : Bool) (e : t ≡ leb (bytes_together b) 61440) where
  -- too many bytes
  pub many_line : t ≡ false → program_line b ≡ too_large
  unfolding program_line
  many_line h = rw (sym e ∙ h)

  -- few enough
  pub few_line : t ≡ true → program_line b ≡ verdict_line (verdict_of b)
  unfolding program_line
  few_line h = rw (sym e ∙ h)
