-- `course::stands_in` meets its contract: of the texts of their kind `|` and `<` alone have one byte.
use borrow.Author.Tests.{eq-eqb}
use Rattle.trip.specs.Stops.{passes_in}
use Rattle.course.proofs.LeafLaws.{one_passes, else_passes_not, one_is_pass}
use Rattle.course.proofs.stands_in.Goals as goal

pub returns-then-a-eq1 : goal.returns-then-a-eq1
unfolding passes_in
returns-then-a-eq1 c = rw (one_passes _ c.requires.0 c.if-a-eq1.true) (eq-eqb _ 1 c.if-a-eq1.true)

pub returns-else-a-eq1 : goal.returns-else-a-eq1
unfolding passes_in
returns-else-a-eq1 c = rw (else_passes_not _ c.requires.0 c.if-a-eq1.false) (one_is_pass _ c.requires.1)
