-- `timecodes::types_of` meets its contract. The loop's invariant: what the list and the marks come to behind the time codes that are left is
-- what they come to behind all.
use lib.ListN.{length}
use Rattle.timecodes.proofs.TimeCodeLaws.{left_at, Typing}
use Rattle.timecodes.proofs.types_of.Given as goal

abbrev pub invariant-loop-step : goal.invariant-loop-step
invariant-loop-step l = Typing l.f10 l.line l.trip l.initial.seen l.seen l.m.first l.m.differ l.near l.step.at

abbrev pub decreases-loop-step : goal.decreases-loop-step
decreases-loop-step l = length (left_at l.f10 l.line l.trip l.step.at)
