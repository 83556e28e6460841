-- `day_of` meets its promise: what it answers is the definition's, by `is_date` and `day_number`.
use mathlib.Core.Path.{◌∙◌, sym}
use Rattle.calendar.specs.Answers.{numbered_day, day_answer}
use Rattle.calendar.proofs.day_of.Goals as goal

pub day_number-requires : goal.day_number-requires
day_number-requires c = sym c.is_date.ensures ∙ c.if-is_date.true

pub returns-then-is_date : goal.returns-then-is_date
unfolding numbered_day day_answer
returns-then-is_date c = rw (← c.is_date.ensures, c.if-is_date.true, c.day_number.ensures)

pub returns-else-is_date : goal.returns-else-is_date
unfolding numbered_day day_answer
returns-else-is_date c = rw (← c.is_date.ensures, c.if-is_date.false)
