-- `previous::line_before` meets its contract. The loop's invariant: the line of the byte before `i` ends before `at`.
use mathlib.Core.Path.{◌≡◌}
use Prim.Native.Nat.{◌-◌, ◌≤◌}
use Rattle.lines.specs.Lines.{behind}
use Rattle.previous.proofs.line_before.Given as goal

abbrev pub invariant-loop-i : goal.invariant-loop-i
invariant-loop-i l = (1 ≤ l.i) × (behind l.s (l.i - 1) ≡ l.at)
