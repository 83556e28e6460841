-- `ordered::rising` meets its contract. The loop's invariant: the file's keys rise if those from `at` on do, after `last`.
use Prim.Native.Nat.{◌-◌}
use lib.ListN.{length}
use Rattle.ordered.proofs.OrderedLaws.{Passed}
use Rattle.ordered.proofs.rising.Given as goal

abbrev pub invariant-loop-at : goal.invariant-loop-at
invariant-loop-at l = Passed l.file l.s l.last l.at

abbrev pub decreases-loop-at : goal.decreases-loop-at
decreases-loop-at l = length l.s - l.at
