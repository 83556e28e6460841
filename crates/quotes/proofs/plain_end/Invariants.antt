-- `quotes::plain_end` meets its contract. The loop's invariant: `i` is within s, and the plain bytes from `at` on end where those from `i` on end.
use mathlib.Core.Path.{◌≡◌}
use Prim.Native.Nat.{◌+◌, ◌-◌, ◌≤◌}
use lib.ListN.{drop, length}
use Rattle.file.specs.Bytes.{plain_run}
use Rattle.quotes.proofs.plain_end.Given as goal

abbrev pub invariant-loop-i : goal.invariant-loop-i
invariant-loop-i l = (l.i ≤ length l.s) × (l.i + plain_run (drop l.i l.s) ≡ l.at + plain_run (drop l.at l.s))

abbrev pub decreases-loop-i : goal.decreases-loop-i
decreases-loop-i l = length l.s - l.i
