-- `weeks_in` meets its contract: the Thursdays of the year's days are counted by sevens.
use native.Mathlib.Omega.{arith}
use Prim.Native.Nat.{◌-◌}
use Rattle.dates.specs.Dates.{year_days, years_days}
use Rattle.weeks.specs.Weeks.{weeks_in}
use Rattle.dates.proofs.Real.{year_most, years_to, all_years}
use Rattle.weeks.proofs.Turns.{thursdays_are}
use Rattle.weeks.proofs.weeks_in.Goals as goal

pub overflow_add-begun : goal.overflow_add-begun
overflow_add-begun c = omega (arith, years_to (c.args.year - 1900) 200 (omega arith), all_years)

pub overflow_add-result : goal.overflow_add-result
overflow_add-result c = let y = c.args.year in
    omega (arith, years_to (y - 1900) 200 (omega arith), all_years, year_most y)

pub returns : goal.returns
unfolding weeks_in
returns c = let y = c.args.year in
    omega (arith, thursdays_are (years_days (y - 1900)) (year_days y))
