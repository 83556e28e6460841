-- `holiday` meets its promise: what it answers is the definition's, by `is_day` and `is_holiday`.
use Rattle.calendar.specs.Answers.{numbered_whether, holiday_answer}
use Rattle.calendar.proofs.holiday.Goals as goal

pub returns-then-is_day : goal.returns-then-is_day
unfolding numbered_whether holiday_answer
returns-then-is_day c = rw (← c.is_day.ensures, c.if-is_day.true, c.is_holiday.ensures)

pub returns-else-is_day : goal.returns-else-is_day
unfolding numbered_whether holiday_answer
returns-else-is_day c = rw (← c.is_day.ensures, c.if-is_day.false)
