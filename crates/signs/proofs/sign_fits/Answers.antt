-- `sign_fits` meets its contract: each case answers one test of the definition.
use native.Mathlib.Omega.{arith}
use Rattle.laws.specs.Tests.{tests}
use Rattle.weeks.specs.Weeks.{weekday}
use Rattle.signs.specs.Signs.{sign_fits}
use Rattle.signs.proofs.sign_fits.Goals as goal

pub overflow_add-result : goal.overflow_add-result
unfolding weekday
overflow_add-result c = omega (arith, c.weekday.ensures)

pub returns-in-88 : goal.returns-in-88
unfolding sign_fits
returns-in-88 c = rw (c.in-88.is, c.is_workday.ensures)

pub returns-in-43 : goal.returns-in-43
unfolding sign_fits
returns-in-43 c = rw (c.in-43.is, c.is_restday.ensures)

pub returns-in_default : goal.returns-in_default
unfolding sign_fits
returns-in_default c = rw (← c.weekday.ensures, c.from.ensures) (search tests)
