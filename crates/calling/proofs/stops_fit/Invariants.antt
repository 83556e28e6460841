-- `calling::stops_fit` meets its contract. The loop's invariant: the pass goes on from what it has come to, through the records that are left,
-- to what it comes to through all of them.
use lib.ListN as list
use Rattle.calling.specs.Calling.{goes_up}
use Rattle.coded.specs.Left.{left_at}
use Rattle.calling.proofs.CallingLaws.{Passing}
use Rattle.calling.proofs.stops_fit.Given as goal

abbrev pub invariant-loop-step : goal.invariant-loop-step
invariant-loop-step l = Passing l.f8 l.line l.trip l.near l.step.at l.c l.time l.length

abbrev pub decreases-loop-step : goal.decreases-loop-step
decreases-loop-step l = list.length (left_at 8 l.f8 (goes_up l.trip) l.line l.trip l.step.at)
