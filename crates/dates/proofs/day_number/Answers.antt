-- `day_number` meets its contract: a real date's years, months and days are there to be subtracted, and the sum lies within the calendar.
use native.Mathlib.Omega.{arith}
use Rattle.dates.specs.Dates.{day_number}
use Rattle.dates.proofs.Real.{real, number_day}
use Rattle.dates.proofs.day_number.Goals as goal

pub overflow_add-result : goal.overflow_add-result
unfolding day_number
overflow_add-result c = let a = c.args in
    let r = real a.day a.month a.year c.requires in
    omega (arith, number_day a.day a.month a.year r)
