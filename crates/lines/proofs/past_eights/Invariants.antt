-- `lines::past_eights` meets its contract. The loop's invariant is that of `line_after`; a turn passes two fours.
use mathlib.Core.Path.{◌≡◌}
use Prim.Native.Nat.{◌+◌, ◌-◌, ◌≤◌}
use lib.ListN.{length, drop}
use Rattle.lines.specs.Lines.{lead}
use Rattle.lines.proofs.past_eights.Given as goal

abbrev pub invariant-loop-i : goal.invariant-loop-i
invariant-loop-i l = (l.i ≤ length l.s) × (l.i + lead (drop l.i l.s) ≡ l.at + lead (drop l.at l.s))

abbrev pub decreases-loop-i : goal.decreases-loop-i
decreases-loop-i l = length l.s - l.i
