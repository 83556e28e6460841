-- `month_in` meets its contract: month 1 + k has begun, and the loop ends where the next has not, or at December.
use native.Mathlib.Omega.{arith}
use Rattle.dates.proofs.Real.{months_step, month_is, month_top}
use Rattle.dates.proofs.month_in.Goals as goal

pub returns-then-left-next : goal.returns-then-left-next
returns-then-left-next c = let y = c.args.year in
    let k = c.loop-k.k in
    month_is y k _ (omega arith) (omega arith) (omega (arith, months_step y k))

pub returns : goal.returns
returns c = omega (arith, month_top c.args.year c.loop-k.k c.args.left (omega arith) (omega arith))
