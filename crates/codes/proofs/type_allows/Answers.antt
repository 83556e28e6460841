-- `codes::type_allows` meets its contract: where there is none of the type nothing is asked.
use Rattle.laws.specs.Tests.{tests}
use Rattle.codes.proofs.type_allows.Goals as goal

pub returns-then-there-eq0 : goal.returns-then-there-eq0
returns-then-there-eq0 c = search tests

pub returns-then-parity_fits : goal.returns-then-parity_fits
returns-then-parity_fits c = rw (← c.parity_fits.ensures, c.if-parity_fits.true) (search tests)

pub returns-else-parity_fits : goal.returns-else-parity_fits
returns-else-parity_fits c = rw (← c.parity_fits.ensures, c.if-parity_fits.false) (search tests)
