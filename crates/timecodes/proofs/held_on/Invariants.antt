-- `timecodes::held_on` meets its contract. The loop's invariant: what the lists come to behind the time codes that are left is what they come to
-- behind all.
use lib.ListN.{length}
use Rattle.timecodes.proofs.TimeCodeLaws.{left_at, Holding}
use Rattle.timecodes.proofs.held_on.Given as goal

abbrev pub invariant-loop-step : goal.invariant-loop-step
invariant-loop-step l = Holding l.f10 l.line l.trip l.d l.initial.seen l.seen l.initial.held l.held l.step.at

abbrev pub decreases-loop-step : goal.decreases-loop-step
decreases-loop-step l = length (left_at l.f10 l.line l.trip l.step.at)
