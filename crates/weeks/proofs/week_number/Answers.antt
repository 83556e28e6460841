-- `week_number` meets its contract: its Thursday is the week's, and sevens from that year's 1 January count the year's Thursdays.
use native.Mathlib.Omega.{arith}
use mathlib.Core.Path.{sym}
use Rattle.dates.proofs.Real.{year_found, new_year_passed}
use Rattle.weeks.proofs.Turns.{thursday_is, week_found}
use Rattle.weeks.proofs.week_number.Goals as goal

pub overflow_sub-year : goal.overflow_sub-year
overflow_sub-year c = let y = year_found _ _ c.year_of-year.ensures in omega arith

pub years_days-requires : goal.years_days-requires
years_days-requires c = let y = year_found _ _ c.year_of-year.ensures in omega arith

pub overflow_sub-result : goal.overflow_sub-result
overflow_sub-result c = new_year_passed _ _ _ c.year_of-year.ensures c.years_days.ensures

pub returns : goal.returns
returns c = let n = c.args.number in
    week_found n _ _ _ (sym (thursday_is n)) c.year_of-year.ensures c.years_days.ensures
