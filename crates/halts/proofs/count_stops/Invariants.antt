-- `halts::count_stops` meets its contract. The loop's invariant: those that were counted and those that are left are the trip's records.
use mathlib.Core.Path.{◌≡◌}
use Prim.Native.Nat.{◌+◌}
use lib.ListN.{length}
use Rattle.file.specs.Files.{fields_of}
use Rattle.file.specs.Records.{records_in}
use Rattle.coded.specs.Left.{left_at}
use Rattle.calling.specs.Calling.{travelled, goes_up}
use Rattle.halts.proofs.HaltLaws.{On}
use Rattle.halts.proofs.count_stops.Given as goal

abbrev pub invariant-loop-step : goal.invariant-loop-step
invariant-loop-step l = On l.f8 l.line l.trip l.step.at × (l.n + length (left_at 8 l.f8 (goes_up l.trip) l.line l.trip l.step.at) ≡ length (travelled l.line l.trip (records_in (fields_of 8) l.f8)))

abbrev pub decreases-loop-step : goal.decreases-loop-step
decreases-loop-step l = length (left_at 8 l.f8 (goes_up l.trip) l.line l.trip l.step.at)
