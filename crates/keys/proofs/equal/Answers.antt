-- `keys::equal` meets its contract: keys of one rank agree in both parts, as the second part is below a thousand million.
use mathlib.Core.Path.{sym, ◌∙◌}
use native.Mathlib.Omega.{arith}
use borrow.Author.Tests.{ne_eqb}
use Rattle.keys.specs.Ranks.{rank_key}
use Rattle.keys.proofs.TestLaws.{equal_test}
use Rattle.keys.proofs.equal.Goals as goal

pub returns-then-x-y : goal.returns-then-x-y
unfolding rank_key
returns-then-x-y c =
    let a = c.args in
    equal_test a.x.lo a.y.lo (rank_key a.x) (rank_key a.y) (λ e. omega arith) (λ e. omega arith)

pub returns-else-x-y : goal.returns-else-x-y
unfolding rank_key
returns-else-x-y c =
    let a = c.args in
    ne_eqb a.x.hi a.y.hi c.if-x-y.false ∙ sym (ne_eqb (rank_key a.x) (rank_key a.y) (λ e. omega arith))
