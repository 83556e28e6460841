-- `extent::digits_end` meets its contract. The loop's invariant: the digits from i on end where those from `at` on do.
use mathlib.Core.Path.{◌≡◌}
use Prim.Native.Nat.{◌+◌, ◌≤◌}
use lib.ListN.{length, drop}
use Rattle.extent.specs.Extent.{digit_run}
use Rattle.extent.proofs.digits_end.Given as goal

abbrev pub invariant-loop-i : goal.invariant-loop-i
invariant-loop-i l = (l.i ≤ length l.s) × (l.i + digit_run (drop l.i l.s) ≡ l.at + digit_run (drop l.at l.s))
