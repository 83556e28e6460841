-- `ticket::between` meets its contract: the first stop isn't passed first, or what their records say of the two is asked.
use mathlib.Core.Bool.{not}
use mathlib.Core.Path.{ap, ◌∙◌}
use Rattle.boarding.specs.Answers.{numbered_sold}
use Rattle.ticket.proofs.TicketLaws.{sold_is, between_turned, between_sold}
use Rattle.ticket.proofs.between.Goals as goal

pub returns-then-not-passed_first : goal.returns-then-not-passed_first
unfolding numbered_sold
returns-then-not-passed_first c = between_turned _ _ _ _ _ _ _ c.passed_first.ensures (ap not c.if-not-passed_first.true)

pub returns : goal.returns
returns c =
    between_sold _ _ _ _ _ _ _ c.passed_first.ensures (ap not c.if-not-passed_first.false)
    (c.boarded_at.ensures ∙ sold_is _ _ c.served_at-first.ensures c.served_at-second.ensures)
