-- `ascent::follows` meets its contract: a file past 10 has no keys, nothing stands before 0, and else the keys are compared.
use mathlib.Core.Path.{sym, ◌∙◌}
use borrow.Author.Tests.{ltb-true}
use Rattle.keys.specs.Ranks.{rank_key}
use Rattle.ascent.proofs.follows.Goals as goal

pub returns-else-at-eq0 : goal.returns-else-at-eq0
returns-else-at-eq0 c t q z =
    let a = c.args in
    ltb-true (rank_key a.last) (rank_key a.k) (sym c.less.ensures ∙ t)
