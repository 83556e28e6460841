-- `year_of` meets its contract: year 1900 + k has begun, and the loop ends where the next has not, or at 2099.
use native.Mathlib.Omega.{arith}
use Rattle.dates.proofs.Real.{years_step, year_is}
use Rattle.dates.proofs.year_of.Goals as goal

pub returns-then-number-next : goal.returns-then-number-next
returns-then-number-next c = let k = c.loop-k.k in
    year_is k _ (omega arith) (omega arith) (omega (arith, years_step k))
