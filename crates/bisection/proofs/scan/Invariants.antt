-- `bisection::scan` meets its contract. The loop's invariant: the answer is that of the records from `at` on.
use Prim.Native.Nat.{◌-◌}
use lib.ListN.{length}
use Rattle.keys.specs.Ranks.{rank_key}
use Rattle.bisection.specs.Narrowing.{Sought}
use Rattle.bisection.proofs.scan.Given as goal

abbrev pub invariant-loop-at : goal.invariant-loop-at
invariant-loop-at l = Sought l.file l.s (rank_key l.x) l.from l.at

abbrev pub decreases-loop-at : goal.decreases-loop-at
decreases-loop-at l = length l.s - l.at
