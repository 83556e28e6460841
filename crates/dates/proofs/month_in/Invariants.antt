-- `month_in` meets its contract: month 1 + k has begun, and the loop ends where the next has not, or at December.
use mathlib.Core.Path.{◌≡◌}
use Prim.Native.Nat.{◌*◌, ◌≤◌}
use Rattle.dates.specs.Dates.{months_days}
use Rattle.dates.proofs.month_in.Given as goal

abbrev pub invariant-loop-k : goal.invariant-loop-k
invariant-loop-k l = (l.begun ≡ months_days l.year l.k) × (l.begun ≤ l.left) × (l.begun ≤ 31 * l.k)
