-- `bisection::narrow` meets its contract. The loop's invariant: the answer is that of the records from `lo` on.
use Prim.Native.Nat.{◌-◌, ◌≤◌, ◌<◌}
use lib.ListN.{length}
use Rattle.keys.specs.Ranks.{rank_key}
use Rattle.bisection.specs.Narrowing.{Sought}
use Rattle.bisection.proofs.narrow.Given as goal

abbrev pub invariant-loop-left : goal.invariant-loop-left
invariant-loop-left l = (l.left.hi ≤ length l.s) × Sought l.file l.s (rank_key l.x) 0 l.left.lo × (0 < l.margin)

abbrev pub decreases-loop-left : goal.decreases-loop-left
decreases-loop-left l = l.left.hi - l.left.lo
