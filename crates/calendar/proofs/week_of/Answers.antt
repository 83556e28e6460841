-- `week_of` meets its promise: what it answers is the definition's, by `is_day`, `week_number` and `odd_week`.
use mathlib.Core.Path.{◌∙◌, sym}
use borrow.Author.Tests.{leb-true}
use Rattle.calendar.specs.Answers.{numbered_week, week_answer}
use Rattle.calendar.proofs.week_of.Goals as goal

pub week_number-requires : goal.week_number-requires
week_number-requires c = leb-true _ _ (sym c.is_day.ensures ∙ c.if-is_day.true)

pub odd_week-requires : goal.odd_week-requires
odd_week-requires c = leb-true _ _ (sym c.is_day.ensures ∙ c.if-is_day.true)

pub returns-then-is_day : goal.returns-then-is_day
unfolding numbered_week week_answer
returns-then-is_day c = rw (← c.is_day.ensures, c.if-is_day.true, c.week_number.ensures, c.odd_week.ensures)

pub returns-else-is_day : goal.returns-else-is_day
unfolding numbered_week week_answer
returns-else-is_day c = rw (← c.is_day.ensures, c.if-is_day.false)
