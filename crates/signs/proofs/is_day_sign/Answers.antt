-- `is_day_sign` meets its contract: each case answers one test of the definition.
use Rattle.laws.specs.Tests.{tests}
use native.Mathlib.Omega.{arith}
use Rattle.signs.specs.Signs.{is_day_sign}
use Rattle.signs.proofs.is_day_sign.Goals as goal

pub returns-in_default : goal.returns-in_default
unfolding is_day_sign
returns-in_default c = grind (tests, arith)

pub returns-in_default-2 : goal.returns-in_default-2
unfolding is_day_sign
returns-in_default-2 c = grind (tests, arith)

pub returns-in-88 : goal.returns-in-88
unfolding is_day_sign
returns-in-88 c = grind (tests, arith)

pub returns-in-88-2 : goal.returns-in-88-2
unfolding is_day_sign
returns-in-88-2 c = grind (tests, arith)
