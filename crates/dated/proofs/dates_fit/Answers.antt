-- `dated::dates_fit` meets its contract: the four rules in the definition's order.
use native.Mathlib.Omega.{arith}
use Rattle.field.specs.Rules.{dates_rule}
use Rattle.dated.proofs.dates_fit.Goals as goal

pub returns-then-has_no_dates : goal.returns-then-has_no_dates
unfolding dates_rule
returns-then-has_no_dates c = grind arith

pub returns-else-has_no_dates : goal.returns-else-has_no_dates
unfolding dates_rule
returns-else-has_no_dates c = grind arith
