-- `course::minute_or` meets its contract: a time's minute is one of the day's.
use mathlib.Core.Path.{sym, ◌∙◌}
use native.Mathlib.Omega.{arith}
use Rattle.field.proofs.ValueLaws.{minute_bound}
use Rattle.course.specs.Course.{minute_or}
use Rattle.course.proofs.minute_or.Goals as goal

pub minute_of-requires : goal.minute_of-requires
minute_of-requires c = sym c.is_timed.ensures ∙ c.if-is_timed.true

pub returns-then-is_timed : goal.returns-then-is_timed
unfolding minute_or
returns-then-is_timed c =
    let t = sym c.is_timed.ensures ∙ c.if-is_timed.true in
    (rw t c.minute_of.ensures, omega (arith, c.minute_of.ensures, minute_bound _ t))

pub returns-else-is_timed : goal.returns-else-is_timed
unfolding minute_or
returns-else-is_timed c = (rw (sym c.is_timed.ensures ∙ c.if-is_timed.false), omega arith)
