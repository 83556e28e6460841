-- `following::least_third` meets its contract. The loop's invariant: the lesser of `least` and the least number from the record at `at` on is that
-- of all.
use Prim.Native.Nat.{◌-◌}
use lib.ListN.{length}
use Rattle.find.proofs.TripLaws.{Passing}
use Rattle.following.proofs.least_third.Given as goal

abbrev pub invariant-loop-at : goal.invariant-loop-at
invariant-loop-at l = Passing l.file l.line l.trip l.x l.s l.least l.at

abbrev pub decreases-loop-at : goal.decreases-loop-at
decreases-loop-at l = length l.s - l.at
