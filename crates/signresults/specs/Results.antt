-- What C is handed of a calendar call's answer on weeks, holidays and day signs: its number, and its values in order, 0 where there is none.
use Rattle.std.specs.Prelude.{ℕ, ◌≡◌, List}
use Rattle.laws.specs.Numbered.{Numbered}
use Rattle.calendar.specs.Answers.{week_answer, holiday_answer, fits_answer}
use Rattle.fileresults.specs.Results.{value}
use Rattle.signresults.specs.declared.WeekResult.{WeekResult}
use Rattle.signresults.specs.declared.HolidayResult.{HolidayResult}
use Rattle.signresults.specs.declared.FitsResult.{FitsResult}

unfoldable pub week_result : Numbered → WeekResult
week_result a = record { number = a.number; week = value a 0; odd = value a 1 }

unfoldable pub holiday_result : Numbered → HolidayResult
holiday_result a = record { number = a.number; holiday = value a 0 }

unfoldable pub fits_result : Numbered → FitsResult
fits_result a = record { number = a.number; fits = value a 0 }

-- what each exported call gives: the week of a day
abbrev pub WeekGives : ℕ → WeekResult → Type 0
WeekGives n r = r ≡ week_result (week_answer n)

-- whether it is a holiday
abbrev pub HolidayGives : ℕ → List ℕ → HolidayResult → Type 0
HolidayGives n holidays r = r ≡ holiday_result (holiday_answer n holidays)

-- whether a sign fits it
abbrev pub FitsGives : ℕ → ℕ → List ℕ → FitsResult → Type 0
FitsGives sign n holidays r = r ≡ fits_result (fits_answer sign n holidays)
