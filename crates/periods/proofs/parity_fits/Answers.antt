-- `parity_fits` meets its contract: each case answers one test of the definition, by `odd_week`.
use native.Mathlib.Omega.{arith}
use Rattle.laws.specs.Tests.{tests}
use Rattle.periods.specs.Periods.{parity_fits}
use Rattle.periods.proofs.parity_fits.Goals as goal

pub returns-in-5 : goal.returns-in-5
unfolding parity_fits
returns-in-5 c = rw c.odd_week.ensures (grind (tests, arith))

pub returns-in-6 : goal.returns-in-6
unfolding parity_fits
returns-in-6 c = rw c.odd_week-in-6.ensures (grind (tests, arith))

pub returns-in_default : goal.returns-in_default
unfolding parity_fits
returns-in_default c = grind (tests, arith)
