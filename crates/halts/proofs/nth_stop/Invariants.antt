-- `halts::nth_stop` meets its contract. The loop's invariant: those that are left are the trip's records from the ith on.
use mathlib.Core.Path.{◌≡◌}
use Prim.Native.Nat.{◌≤◌}
use lib.ListN.{length, drop}
use Rattle.file.specs.Files.{fields_of}
use Rattle.file.specs.Records.{records_in}
use Rattle.coded.specs.Left.{left_at}
use Rattle.calling.specs.Calling.{travelled, goes_up}
use Rattle.halts.proofs.HaltLaws.{On}
use Rattle.halts.proofs.nth_stop.Given as goal

abbrev pub invariant-loop-step : goal.invariant-loop-step
invariant-loop-step l = On l.f8 l.line l.trip l.step.at × (l.i ≤ l.n) × (left_at 8 l.f8 (goes_up l.trip) l.line l.trip l.step.at ≡ drop l.i (travelled l.line l.trip (records_in (fields_of 8) l.f8)))

abbrev pub decreases-loop-step : goal.decreases-loop-step
decreases-loop-step l = length (left_at 8 l.f8 (goes_up l.trip) l.line l.trip l.step.at)
