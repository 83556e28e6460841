-- `byname::settled_by` meets its contract: none, one, or several.
use Rattle.laws.specs.Tests.{tests}
use Rattle.named.specs.Names.{numbered_named}
use Rattle.byname.specs.Counting.{settled_by}
use Rattle.byname.proofs.settled_by.Goals as goal

pub returns-in-0 : goal.returns-in-0
unfolding numbered_named settled_by
returns-in-0 c = search tests

pub returns-in-1 : goal.returns-in-1
unfolding numbered_named settled_by
returns-in-1 c = rw c.in-1.is

pub returns-in_default : goal.returns-in_default
unfolding numbered_named settled_by
returns-in_default c = search tests
