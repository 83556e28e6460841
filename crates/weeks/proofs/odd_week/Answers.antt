-- `odd_week` meets its contract, by `week_number`.
use Rattle.weeks.specs.Weeks.{odd_week}
use Rattle.weeks.proofs.odd_week.Goals as goal

pub returns : goal.returns
unfolding odd_week
returns c = rw c.week_number.ensures
