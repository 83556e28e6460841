-- `passage::stands_well` meets its contract: the rules are asked first, and then the links.
use mathlib.Core.Path.{sym, ◌∙◌}
use Rattle.laws.specs.Tests.{never}
use Rattle.passage.proofs.stands_well.Goals as goal

pub returns-else-meets_rules : goal.returns-else-meets_rules
returns-else-meets_rules c =
    let p = c.requires in
    ((λ t. never (sym c.if-meets_rules.false ∙ t)), p.0.known.looks.lasts, p.1)

pub returns-then-meets_rules : goal.returns-then-meets_rules
returns-then-meets_rules c =
    let x = c.record_met.ensures in
    ((λ t. (sym c.meets_rules.ensures ∙ c.if-meets_rules.true, x.0 t)), x.1, x.2)
