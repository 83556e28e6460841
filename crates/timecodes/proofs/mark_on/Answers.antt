-- `timecodes::mark_on` meets its contract, branch by branch.
use mathlib.Core.Path.{refl, sym, ◌∙◌}
use Rattle.timecodes.proofs.TimeCodeLaws.{mark_none, mark_first, mark_next}
use Rattle.timecodes.proofs.mark_on.Goals as goal

pub returns-then-kind-eq0 : goal.returns-then-kind-eq0
returns-then-kind-eq0 c =
    mark_none c.args.m.first c.args.m.differ _ (sym c.requires.2 ∙ c.if-kind-eq0.true)

pub returns-then-m-eq0 : goal.returns-then-m-eq0
returns-then-m-eq0 c =
    mark_first c.args.m.first c.args.m.differ _ (λ z. c.if-kind-eq0.false (c.requires.2 ∙ z)) _ c.mark_of-found.ensures c.if-m-eq0.true

pub returns-then-m : goal.returns-then-m
returns-then-m c =
    let next =
    mark_next c.args.m.first c.args.m.differ _ (λ z. c.if-kind-eq0.false (c.requires.2 ∙ z)) _ c.mark_of-found.ensures c.if-m-eq0.false in
    rw c.if-m.true (next.0, refl)

pub returns-else-m : goal.returns-else-m
returns-else-m c =
    let next =
    mark_next c.args.m.first c.args.m.differ _ (λ z. c.if-kind-eq0.false (c.requires.2 ∙ z)) _ c.mark_of-found.ensures c.if-m-eq0.false in
    rw c.if-m.false (rw c.if-m.false at next)
