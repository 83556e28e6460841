-- `lines::line_after` meets its contract. The loop's invariant: the line that `at` stands in ends where the line that `i` stands in does.
use mathlib.Core.Path.{◌≡◌}
use Prim.Native.Nat.{◌+◌}
use lib.ListN.{drop}
use Rattle.lines.specs.Lines.{lead}
use Rattle.lines.proofs.line_after.Given as goal

abbrev pub invariant-loop-i : goal.invariant-loop-i
invariant-loop-i l = l.i + lead (drop l.i l.s) ≡ l.at + lead (drop l.at l.s)
