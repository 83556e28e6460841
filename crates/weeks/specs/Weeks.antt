-- Weekdays and weeks (document 01, "Days"). Day 0 is a Monday. Weeks are those of ISO 8601: they begin on Monday, and week 1 is the one
-- with the year's first Thursday. So a week belongs to the year of its Thursday, and its number is how many Thursdays that year has had.
use Rattle.std.specs.Prelude.{ℕ, zero, suc, ◌+◌, ◌-◌, ◌%◌, Bool, eqb}
use Rattle.laws.specs.Tests.{pick}
use Rattle.dates.specs.Dates.{year_days, years_days, new_year}

-- the weekday of day n, from Monday 1 to Sunday 7
unfoldable pub weekday : ℕ → ℕ
weekday n = 1 + n % 7

-- the Monday and the Thursday of the week that holds day n
unfoldable pub monday_of : ℕ → ℕ
monday_of n = n - (weekday n - 1)

unfoldable pub thursday_of : ℕ → ℕ
thursday_of n = monday_of n + 3

-- how many of the k days from day a on are Thursdays
unfoldable pub thursdays : ℕ → ℕ → ℕ
thursdays a zero = 0
thursdays a (suc k) = thursdays a k + pick (eqb (weekday (a + k)) 4) 1 0

-- the week of day n: how many Thursdays the year of its Thursday has had, that Thursday counted too
unfoldable pub week_of : ℕ → ℕ
week_of n = thursdays (new_year (thursday_of n)) (thursday_of n - new_year (thursday_of n) + 1)

-- the week of day n is odd
unfoldable pub odd_week : ℕ → Bool
odd_week n = eqb (week_of n % 2) 1

-- the weeks of year y: as many as it has Thursdays
unfoldable pub weeks_in : ℕ → ℕ
weeks_in y = thursdays (years_days (y - 1900)) (year_days y)
