-- `roll::nth_trip` meets its contract. The loop's invariant: the records from `at` on are those from the ith on.
use Prim.Native.Nat.{◌-◌, ◌≤◌}
use lib.ListN.{length}
use Rattle.roll.specs.Roll.{NthTrip}
use Rattle.roll.proofs.nth_trip.Given as goal

abbrev pub invariant-loop-at : goal.invariant-loop-at
invariant-loop-at l = (l.i ≤ l.n) × NthTrip l.f6 l.i l.at

abbrev pub decreases-loop-at : goal.decreases-loop-at
decreases-loop-at l = length l.f6 - l.at
