-- `dated::is_time_mark` meets its contract: two digits, whose value is asked for.
use native.Mathlib.Omega.{arith}
use Rattle.laws.specs.Tests.{tests}
use Rattle.field.specs.Rules.{is_time_mark}
use Rattle.dated.proofs.is_time_mark.Goals as goal

pub returns-in-10-to-79 : goal.returns-in-10-to-79
unfolding is_time_mark
returns-in-10-to-79 c = rw (← c.is_digits.ensures, ← c.value_of.ensures, c.if-is_digits.true) (grind (tests, arith))

pub returns-in_default : goal.returns-in_default
unfolding is_time_mark
returns-in_default c = rw (← c.is_digits.ensures, ← c.value_of.ensures, c.if-is_digits.true) (grind (tests, arith))

pub returns-in_default-2 : goal.returns-in_default-2
unfolding is_time_mark
returns-in_default-2 c = rw (← c.is_digits.ensures, ← c.value_of.ensures, c.if-is_digits.true) (grind (tests, arith))

pub returns-else-is_digits : goal.returns-else-is_digits
unfolding is_time_mark
returns-else-is_digits c = rw (← c.is_digits.ensures, c.if-is_digits.false)
