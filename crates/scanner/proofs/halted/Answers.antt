-- `scanner::halted` meets its contract: a byte stands at a place within the file.
use Rattle.laws.specs.Tests.{tests}
use Rattle.scanner.proofs.halted.Goals as goal

pub returns-then-at-s : goal.returns-then-at-s
returns-then-at-s c = search tests

pub returns-else-at-s : goal.returns-else-at-s
returns-else-at-s c = search tests
