-- `tally::count` meets its contract: a legal file has as many LFs as records. The loop's invariant: `n` and the LFs from `at` on are all.
use mathlib.Core.Path.{◌≡◌}
use Prim.Native.Nat.{◌+◌, ◌-◌, ◌≤◌}
use lib.ListN.{length, drop}
use Rattle.tally.specs.Feeds.{feeds}
use Rattle.tally.proofs.count.Given as goal

abbrev pub invariant-loop-at : goal.invariant-loop-at
invariant-loop-at l = (l.at ≤ length l.s) × (l.n + feeds (drop l.at l.s) ≡ feeds l.s)

abbrev pub decreases-loop-at : goal.decreases-loop-at
decreases-loop-at l = length l.s - l.at
