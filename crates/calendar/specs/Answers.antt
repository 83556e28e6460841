-- What the calendar's calls come back with: for each answer its number and values, for each call the answer and the promise.
-- A date that isn't real and a day past 73048 are refusal 12, whatever else was asked.
use Rattle.std.specs.Prelude.{ℕ, Bool, ◌≡◌, List, [], ◌∷◌, Option, Some, None}
use Rattle.laws.specs.Tests.{pick, bit}
use Rattle.laws.specs.Numbered.{Numbered, answered, refused}
use Rattle.calendar.specs.declared.Date.{Date}
use Rattle.calendar.specs.declared.Week.{Week}
use Rattle.dates.specs.Dates.{is_date, is_day, day_number, day_of, month_of, year_of}
use Rattle.weeks.specs.Weeks.{weekday, week_of, odd_week}
use Rattle.signs.specs.Signs.{is_holiday, sign_fits}

unfoldable pub numbered_day : Option ℕ → Numbered
numbered_day (Some n) = answered (n ∷ [])
numbered_day None = refused 12

unfoldable pub numbered_date : Option Date → Numbered
numbered_date (Some t) = answered (t.day ∷ t.month ∷ t.year ∷ [])
numbered_date None = refused 12

unfoldable pub numbered_weekday : Option ℕ → Numbered
numbered_weekday (Some w) = answered (w ∷ [])
numbered_weekday None = refused 12

unfoldable pub numbered_week : Option Week → Numbered
numbered_week (Some w) = answered (w.number ∷ bit w.odd ∷ [])
numbered_week None = refused 12

unfoldable pub numbered_whether : Option Bool → Numbered
numbered_whether (Some t) = answered (bit t ∷ [])
numbered_whether None = refused 12

-- the number of a date
unfoldable pub day_answer : ℕ → ℕ → ℕ → Numbered
day_answer d m y = pick (is_date d m y) (answered (day_number d m y ∷ [])) (refused 12)

-- the date of a day: day, month, year
unfoldable pub date_answer : ℕ → Numbered
date_answer n = pick (is_day n) (answered (day_of n ∷ month_of n ∷ year_of n ∷ [])) (refused 12)

-- the weekday of a day
unfoldable pub weekday_answer : ℕ → Numbered
weekday_answer n = pick (is_day n) (answered (weekday n ∷ [])) (refused 12)

-- the week of a day, and whether it is odd
unfoldable pub week_answer : ℕ → Numbered
week_answer n = pick (is_day n) (answered (week_of n ∷ bit (odd_week n) ∷ [])) (refused 12)

-- whether a day is in the list of holidays
unfoldable pub holiday_answer : ℕ → List ℕ → Numbered
holiday_answer n holidays = pick (is_day n) (answered (bit (is_holiday holidays n) ∷ [])) (refused 12)

-- whether a day sign fits a day
unfoldable pub fits_answer : ℕ → ℕ → List ℕ → Numbered
fits_answer sign n holidays = pick (is_day n) (answered (bit (sign_fits sign n holidays) ∷ [])) (refused 12)

-- the promises
abbrev pub DayIs : ℕ → ℕ → ℕ → Option ℕ → Type 0
DayIs d m y r = numbered_day r ≡ day_answer d m y

abbrev pub DateIs : ℕ → Option Date → Type 0
DateIs n r = numbered_date r ≡ date_answer n

abbrev pub WeekdayIs : ℕ → Option ℕ → Type 0
WeekdayIs n r = numbered_weekday r ≡ weekday_answer n

abbrev pub WeekIs : ℕ → Option Week → Type 0
WeekIs n r = numbered_week r ≡ week_answer n

abbrev pub HolidayIs : ℕ → List ℕ → Option Bool → Type 0
HolidayIs n holidays r = numbered_whether r ≡ holiday_answer n holidays

abbrev pub FitsIs : ℕ → ℕ → List ℕ → Option Bool → Type 0
FitsIs sign n holidays r = numbered_whether r ≡ fits_answer sign n holidays
