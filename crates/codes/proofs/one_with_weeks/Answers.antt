-- `codes::one_with_weeks` meets its contract: the place of type 1, and one of two others.
use mathlib.Core.Path.{refl}
use native.Mathlib.Omega.{arith}
use borrow.Author.Tests.{eq-eqb}
use Rattle.trip.specs.Days.{one_with_weeks}
use Rattle.codes.proofs.LeafLaws.{lacks_type, has_type_lem, late_weeks}
use Rattle.codes.proofs.one_with_weeks.Goals as goal

pub overflow_add-result : goal.overflow_add-result
overflow_add-result c = let low = c.requires.low in omega (arith, low 7, low 8)

pub returns-then-seen-ne0 : goal.returns-then-seen-ne0
unfolding one_with_weeks
returns-then-seen-ne0 c codes s = rw (has_type_lem s 1 refl c.if-seen-ne0.true) (late_weeks s)

pub returns-else-seen-ne0 : goal.returns-else-seen-ne0
unfolding one_with_weeks
returns-else-seen-ne0 c codes s = rw (lacks_type s 1 refl c.if-seen-ne0.false, eq-eqb _ 0 c.if-seen-ne0.false)
