-- `preceding::number_by_search` meets its contract. The loop's invariant: the greater of `most` and the number of the records from `at` on is
-- that of all.
use Prim.Native.Nat.{◌-◌}
use lib.ListN.{length}
use Rattle.previous.proofs.PreviousLaws.{Passing}
use Rattle.preceding.proofs.number_by_search.Given as goal

abbrev pub invariant-loop-at : goal.invariant-loop-at
invariant-loop-at l = Passing l.file l.line l.trip l.x l.s l.most l.at

abbrev pub decreases-loop-at : goal.decreases-loop-at
decreases-loop-at l = length l.s - l.at
