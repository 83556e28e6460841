-- `keys::less` meets its contract: to compare by the two parts is to compare ranks, as the second part is below a thousand million.
use native.Mathlib.Omega.{arith}
use Rattle.keys.specs.Ranks.{rank_key}
use Rattle.keys.proofs.TestLaws.{less_test}
use Rattle.keys.proofs.less.Goals as goal

pub returns-then-x-y : goal.returns-then-x-y
unfolding rank_key
returns-then-x-y c =
    let a = c.args in
    less_test a.x.hi a.y.hi (rank_key a.x) (rank_key a.y) (λ h. omega arith) (λ h. omega arith)

pub returns : goal.returns
unfolding rank_key
returns c =
    let a = c.args in
    less_test a.x.lo a.y.lo (rank_key a.x) (rank_key a.y) (λ h. omega arith) (λ h. omega arith)
