-- `months_days` meets its contract: the loop has counted the days of the first i months, at most 31 each.
use mathlib.Core.Path.{◌≡◌}
use Prim.Native.Nat.{◌*◌, ◌≤◌}
use Rattle.dates.specs.Dates.{months_days}
use Rattle.dates.proofs.months_days.Given as goal

abbrev pub invariant-loop-i : goal.invariant-loop-i
invariant-loop-i l = (l.days ≡ months_days l.year l.i) × (l.days ≤ 31 * l.i)
