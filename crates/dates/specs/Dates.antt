-- Dates and day numbers (document 01, "Days"). Day 0 is 1 January 1900; 31 December 2099 is day 73048.
-- A day's number is found by counting years and months, and its date by looking for the last year and month that have begun.
use Rattle.std.specs.Prelude.{ℕ, zero, suc, ◌+◌, ◌-◌, ◌%◌, Bool, true, false, List, [], ◌∷◌, eqb, leb, ltb, get_or}
use Rattle.laws.specs.Tests.{pick, both}

-- x is one of a to b
abbrev pub within : ℕ → ℕ → ℕ → Bool
within a x b = both (leb a x) (leb x b)

-- each fourth year is a leap year, but of the full hundreds each fourth only
unfoldable pub leap : ℕ → Bool
leap y = pick (eqb (y % 400) 0) true (pick (eqb (y % 100) 0) false (eqb (y % 4) 0))

-- the days of year y
unfoldable pub year_days : ℕ → ℕ
year_days y = pick (leap y) 366 365

-- the days of January to December, where February has `second`; 0 stands before the first
unfoldable pub months : ℕ → List ℕ
months second = 0 ∷ 31 ∷ second ∷ 31 ∷ 30 ∷ 31 ∷ 30 ∷ 31 ∷ 31 ∷ 30 ∷ 31 ∷ 30 ∷ 31 ∷ []

-- the days of month m of year y, 0 where m is no month
unfoldable pub month_days : ℕ → ℕ → ℕ
month_days y m = get_or (months (pick (leap y) 29 28)) m 0

-- day d of month m of year y is a real Gregorian date of 1900-2099
unfoldable pub is_date : ℕ → ℕ → ℕ → Bool
is_date d m y = both (within 1900 y 2099) (both (within 1 m 12) (within 1 d (month_days y m)))

-- the days of the first k years from 1900 on: the number of 1 January of year 1900 + k
unfoldable pub years_days : ℕ → ℕ
years_days zero = 0
years_days (suc k) = years_days k + year_days (1900 + k)

-- the days of the first k months of year y
unfoldable pub months_days : ℕ → ℕ → ℕ
months_days y zero = 0
months_days y (suc k) = months_days y k + month_days y (suc k)

-- the number of a date: the whole years, months and days before it
unfoldable pub day_number : ℕ → ℕ → ℕ → ℕ
day_number d m y = years_days (y - 1900) + months_days y (m - 1) + (d - 1)

-- n is the number of a day of 1900-2099
abbrev pub is_day : ℕ → Bool
is_day n = leb n 73048

-- the last of 0 to k whose beginning, given by `start`, isn't after n
unfoldable pub last_begun : (ℕ → ℕ) → ℕ → ℕ → ℕ
last_begun start zero n = 0
last_begun start (suc k) n = let earlier = last_begun start k n in pick (leb (start (suc k)) n) (suc k) earlier

-- the year of day n: the last of 1900-2099 that has begun
unfoldable pub year_of : ℕ → ℕ
year_of n = 1900 + last_begun years_days 199 n

-- the number of 1 January of the year of day n
unfoldable pub new_year : ℕ → ℕ
new_year n = years_days (year_of n - 1900)

-- the month of day n: the last of its year's twelve that has begun
unfoldable pub month_of : ℕ → ℕ
month_of n = 1 + last_begun (months_days (year_of n)) 11 (n - new_year n)

-- the day of the month of day n
unfoldable pub day_of : ℕ → ℕ
day_of n = 1 + (n - new_year n - months_days (year_of n) (month_of n - 1))

-- the date of day n: day, month, year
abbrev pub date_of : ℕ → ℕ × ℕ × ℕ
date_of n = (day_of n, month_of n, year_of n)

-- the number of such a date
abbrev pub number_of : ℕ × ℕ × ℕ → ℕ
number_of t = day_number t.0 t.1 t.2

-- the date of the day after day d of month m of year y: in the month, in the next month, or 1 January
unfoldable pub tomorrow : ℕ → ℕ → ℕ → ℕ × ℕ × ℕ
tomorrow d m y = pick (ltb d (month_days y m)) (d + 1, m, y) (pick (ltb m 12) (1, m + 1, y) (1, 1, y + 1))
