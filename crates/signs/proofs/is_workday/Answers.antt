-- `is_workday` meets its contract, by `weekday` and `is_holiday`.
use Rattle.laws.specs.Tests.{tests}
use Rattle.signs.specs.Signs.{is_workday}
use Rattle.signs.proofs.is_workday.Goals as goal

pub returns-then-weekday-le5 : goal.returns-then-weekday-le5
unfolding is_workday
returns-then-weekday-le5 c = rw (← c.weekday.ensures, ← c.is_holiday.ensures) (search tests)

pub returns-else-weekday-le5 : goal.returns-else-weekday-le5
unfolding is_workday
returns-else-weekday-le5 c = rw (← c.weekday.ensures) (search tests)
