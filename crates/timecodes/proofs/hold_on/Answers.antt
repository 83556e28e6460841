-- `timecodes::hold_on` meets its contract: the type is marked only if the time code holds day d.
use mathlib.Core.Path.{sym, ◌∙◌}
use Rattle.timecodes.proofs.TimeCodeLaws.{held_left, held_marked}
use Rattle.timecodes.proofs.hold_on.Goals as goal

pub returns-then-holds_day : goal.returns-then-holds_day
returns-then-holds_day c =
    let held = c.args.held.now in
    held_marked _ held _ (sym c.holds_day.ensures ∙ c.if-holds_day.true) _ c.type_of-kind.ensures.0

pub returns-else-holds_day : goal.returns-else-holds_day
returns-else-holds_day c = held_left _ _ _ (sym c.holds_day.ensures ∙ c.if-holds_day.false)
