-- `is_restday` meets its contract, by `weekday` and `is_holiday`.
use Rattle.laws.specs.Tests.{tests}
use Rattle.signs.specs.Signs.{is_restday}
use Rattle.signs.proofs.is_restday.Goals as goal

pub returns-then-weekday-eq7 : goal.returns-then-weekday-eq7
unfolding is_restday
returns-then-weekday-eq7 c = rw (← c.weekday.ensures) (search tests)

pub returns-else-weekday-eq7 : goal.returns-else-weekday-eq7
unfolding is_restday
returns-else-weekday-eq7 c = rw (← c.weekday.ensures, ← c.is_holiday.ensures) (search tests)
