-- `halts::timed_behind` meets its contract. The loop's invariant: whether one of those that are left has a time is whether one behind the first has.
use mathlib.Core.Path.{◌≡◌}
use lib.ListN.{length, drop}
use Rattle.trail.specs.Lists.{some}
use Rattle.trip.specs.Stops.{timed}
use Rattle.coded.specs.Left.{left_at}
use Rattle.calling.specs.Calling.{goes_up}
use Rattle.halts.proofs.HaltLaws.{On}
use Rattle.halts.proofs.timed_behind.Given as goal

abbrev pub invariant-loop-step : goal.invariant-loop-step
invariant-loop-step l = On l.f8 l.line l.trip l.step.at × (some timed (left_at 8 l.f8 (goes_up l.trip) l.line l.trip l.step.at) ≡ some timed (drop 1 (left_at 8 l.f8 (goes_up l.trip) l.line l.trip l.start)))

abbrev pub decreases-loop-step : goal.decreases-loop-step
decreases-loop-step l = length (left_at 8 l.f8 (goes_up l.trip) l.line l.trip l.step.at)
