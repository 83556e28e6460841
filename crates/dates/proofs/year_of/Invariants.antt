-- `year_of` meets its contract: year 1900 + k has begun, and the loop ends where the next has not, or at 2099.
use mathlib.Core.Path.{◌≡◌}
use Prim.Native.Nat.{◌*◌, ◌≤◌}
use Rattle.dates.specs.Dates.{years_days}
use Rattle.dates.proofs.year_of.Given as goal

abbrev pub invariant-loop-k : goal.invariant-loop-k
invariant-loop-k l = (l.begun ≡ years_days l.k) × (l.begun ≤ l.number) × (l.begun ≤ 366 * l.k)
