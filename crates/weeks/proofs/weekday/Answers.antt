-- `weekday` meets its contract: code and definition are one.
use Rattle.laws.specs.Tests.{tests}
use Rattle.weeks.specs.Weeks.{weekday}
use Rattle.weeks.proofs.weekday.Goals as goal

pub returns : goal.returns
unfolding weekday
returns c = search tests
