-- What C is handed of a calendar call's answer on dates and weekdays: its number, and its values in order, 0 where there is none.
use Rattle.std.specs.Prelude.{ℕ, ◌≡◌}
use Rattle.laws.specs.Numbered.{Numbered}
use Rattle.calendar.specs.Answers.{day_answer, date_answer, weekday_answer}
use Rattle.fileresults.specs.Results.{value}
use Rattle.dayresults.specs.declared.DayResult.{DayResult}
use Rattle.dayresults.specs.declared.DateResult.{DateResult}
use Rattle.dayresults.specs.declared.WeekdayResult.{WeekdayResult}

unfoldable pub day_result : Numbered → DayResult
day_result a = record { number = a.number; day = value a 0 }

unfoldable pub date_result : Numbered → DateResult
date_result a = record { number = a.number; day = value a 0; month = value a 1; year = value a 2 }

unfoldable pub weekday_result : Numbered → WeekdayResult
weekday_result a = record { number = a.number; weekday = value a 0 }

-- what each exported call gives: the day number of a date
abbrev pub DayGives : ℕ → ℕ → ℕ → DayResult → Type 0
DayGives d m y r = r ≡ day_result (day_answer d m y)

-- the date of a day
abbrev pub DateGives : ℕ → DateResult → Type 0
DateGives n r = r ≡ date_result (date_answer n)

-- its weekday
abbrev pub WeekdayGives : ℕ → WeekdayResult → Type 0
WeekdayGives n r = r ≡ weekday_result (weekday_answer n)
