-- `previous::key_of` meets its contract.
use native.Mathlib.Omega.{arith}
use Rattle.keys.specs.Ranks.{rank_key}
use Rattle.previous.proofs.key_of.Goals as goal

pub returns-then-x-eq1000000000 : goal.returns-then-x-eq1000000000
unfolding rank_key
returns-then-x-eq1000000000 c = record { rank = omega (arith, c.if-x-eq1000000000.true); low = omega arith }

pub returns : goal.returns
unfolding rank_key
returns c = let ne = c.if-x-eq1000000000.false in record { rank = omega arith; low = omega (arith, ne, c.requires.2) }
