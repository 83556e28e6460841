-- `hinted::step` meets its contract: keys go by their ranks, and those of one rank by place.
use mathlib.Core.Path.{sym, ◌∙◌}
use native.Mathlib.Omega.{arith}
use borrow.Author.Tests.{ltb-true, ltb-false}
use Rattle.keys.specs.Ranks.{rank_key}
use Rattle.hinted.proofs.step.Goals as goal

pub returns-then-less : goal.returns-then-less
returns-then-less c =
    let a = c.args in
    let h = ltb-true (rank_key a.j) (rank_key a.k) (sym c.less.ensures ∙ c.if-less.true) in
    record { behind = λ q. omega arith; above = λ q. h }

pub returns-then-w-x : goal.returns-then-w-x
returns-then-w-x c =
    let a = c.args in
    let h = ltb-false (rank_key a.k) (rank_key a.j) (sym c.less-2.ensures ∙ c.if-less-2.false) in
    record { behind = λ q. omega arith; above = λ q. absurd (omega arith) }
