-- `years_days` meets its contract: the loop has counted the days of the first i years, at most 366 each.
use mathlib.Core.Path.{◌≡◌}
use Prim.Native.Nat.{◌*◌, ◌≤◌}
use Rattle.dates.specs.Dates.{years_days}
use Rattle.dates.proofs.years_days.Given as goal

abbrev pub invariant-loop-i : goal.invariant-loop-i
invariant-loop-i l = (l.days ≡ years_days l.i) × (l.days ≤ 366 * l.i)
