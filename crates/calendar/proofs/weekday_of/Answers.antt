-- `weekday_of` meets its promise: what it answers is the definition's, by `is_day` and `weekday`.
use Rattle.calendar.specs.Answers.{numbered_weekday, weekday_answer}
use Rattle.calendar.proofs.weekday_of.Goals as goal

pub returns-then-is_day : goal.returns-then-is_day
unfolding numbered_weekday weekday_answer
returns-then-is_day c = rw (← c.is_day.ensures, c.if-is_day.true, c.weekday.ensures)

pub returns-else-is_day : goal.returns-else-is_day
unfolding numbered_weekday weekday_answer
returns-else-is_day c = rw (← c.is_day.ensures, c.if-is_day.false)
