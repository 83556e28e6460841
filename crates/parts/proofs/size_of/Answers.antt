-- `parts::size_of` meets its contract.
use mathlib.Core.Path.{sym, ◌∙◌}
use Rattle.parts.proofs.PartLaws.{part_none, part_many}
use Rattle.parts.proofs.size_of.Goals as goal

pub returns-then-rising : goal.returns-then-rising
returns-then-rising c =
    let a = c.args in
    sym (part_none a.file a.s.now (sym c.rising.ensures ∙ c.if-rising.true))

pub returns : goal.returns
returns c =
    let a = c.args in
    c.count.ensures ∙ sym (part_many a.file a.s.now (sym c.rising.ensures ∙ c.if-rising.false))
