-- `period_holds` meets its contract: each branch answers one test of the definition.
use Rattle.laws.specs.Tests.{tests}
use Rattle.periods.specs.Periods.{period_holds}
use Rattle.periods.proofs.period_holds.Goals as goal

pub returns-then-from-number : goal.returns-then-from-number
unfolding period_holds
returns-then-from-number c = rw c.if-given.true (search tests)

pub returns-else-from-number : goal.returns-else-from-number
unfolding period_holds
returns-else-from-number c = rw c.if-given.true (search tests)

pub returns-else-given : goal.returns-else-given
unfolding period_holds
returns-else-given c = rw c.if-given.false
