-- `named::first_of` meets its contract: this one is the first where none was found before.
use Rattle.laws.specs.Tests.{tests}
use Rattle.named.proofs.first_of.Goals as goal

pub returns-then-found-eq0 : goal.returns-then-found-eq0
returns-then-found-eq0 c = search tests

pub returns-else-found-eq0 : goal.returns-else-found-eq0
returns-else-found-eq0 c = search tests
