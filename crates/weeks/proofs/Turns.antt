-- What happens at the ends of months, years and weeks, step by step: the lemmas behind the laws.
-- A real date's number lies in its year and month, so its date is found again; Thursdays come by sevens.
use Rattle.std.specs.Prelude.{◌≡◌, refl, Bool, true, false, ◌≢◌, ℕ, zero, suc, ◌+◌, ◌-◌, ◌/◌, ◌%◌, ◌≤◌, ◌<◌, eqb, ltb}
use Rattle.std.proofs.Common.{sym, ap, subst, ◌∙◌, arith, ltb-true, ltb-false, eqb-true}
use Rattle.std.proofs.lemmas.Bool.{eqb-false}
use Rattle.laws.specs.Tests.{pick, either}
use Rattle.dates.specs.Dates.{tomorrow, leap, year_days, month_days, is_date, years_days, months_days, day_number, year_of, new_year, month_of, day_of}
use Rattle.weeks.specs.Weeks.{weekday, monday_of, thursday_of, thursdays, week_of}
use Rattle.dates.proofs.Counting.{last_is}
use Rattle.dates.proofs.Real.{Real, real, twelve, year_least, next_year_after, years_to, year_index, years_rise, months_rise, year_next, month_next, number_low, number_high, year_low, year_high, new_year_before, new_year_found}

pub in_month : (d m y : ℕ) → 1 ≤ d → day_number (d + 1) m y ≡ day_number d m y + 1
unfolding day_number
in_month d m y h = omega arith

pub month_end : (d m y : ℕ) → 1 ≤ m → 1 ≤ d → d ≡ month_days y m → day_number 1 (m + 1) y ≡ day_number d m y + 1
unfolding day_number
month_end d m y p q e =
    let a : months_days y (m + 1 - 1) ≡ months_days y m = ap (months_days y) (omega arith) in
    omega (arith, month_next y m p)

no_months : (y : ℕ) → months_days y 0 ≡ 0
unfolding months_days
no_months y = refl

pub year_end : (d m y : ℕ) → 1900 ≤ y → 1 ≤ d → d ≡ month_days y m → m ≡ 12 → day_number 1 1 (y + 1) ≡ day_number d m y + 1
unfolding day_number
year_end d m y p q e f =
    let a : years_days (y + 1 - 1900) ≡ years_days (suc (y - 1900)) = ap years_days (omega arith) in
    let c : months_days y m ≡ months_days y 12 = ap (months_days y) f in
    omega (arith, year_next y p, month_next y m (omega arith), twelve y, no_months (y + 1))

past_the_last : day_number 1 1 2100 ≡ 73049
unfolding day_number years_days year_days leap months_days
past_the_last = refl

-- the last date has the last number
pub last_date : (d m y : ℕ) → y ≡ 2099 → m ≡ 12 → d ≡ month_days y m → 1 ≤ d → day_number d m y ≡ 73048
last_date d m y e f g h =
    let a : day_number 1 1 (y + 1) ≡ day_number d m y + 1 = year_end d m y (omega arith) h g f in
    let b : day_number 1 1 (y + 1) ≡ day_number 1 1 2100 = ap (λ (i : ℕ). day_number 1 1 (i + 1)) e in
    omega (arith, past_the_last)

-- so an earlier date's year has a next one
pub not_the_last : (d m y : ℕ) → Real d m y → d ≡ month_days y m → m ≡ 12 → day_number d m y < 73048 → y < 2099
not_the_last d m y r g f n =
    either (ltb y 2099)
    (λ e. ltb-true y 2099 e)
    (λ e. absurd (omega (arith, last_date d m y (omega (arith, ltb-false y 2099 e)) f g r.first_day)))

-- a proof of what holds of the day after, by its three cases
pub by_tomorrow : (P : ℕ × ℕ × ℕ → Type 0) (d m y : ℕ) → Real d m y
    → (d < month_days y m → P (d + 1, m, y))
    → (d ≡ month_days y m → m < 12 → P (1, m + 1, y))
    → (d ≡ month_days y m → m ≡ 12 → P (1, 1, y + 1))
    → P (tomorrow d m y)
unfolding tomorrow
by_tomorrow P d m y r in-it next last = go (ltb d (month_days y m)) refl
  where
    at_end : (t : Bool) → ltb m 12 ≡ t → d ≡ month_days y m → P (pick t (1, m + 1, y) (1, 1, y + 1))
    at_end true f h = next h (ltb-true m 12 f)
    at_end false f h = last h (omega (arith, ltb-false m 12 f, r.last_month))

    go : (t : Bool) → ltb d (month_days y m) ≡ t → P (pick t (d + 1, m, y) (pick (ltb m 12) (1, m + 1, y) (1, 1, y + 1)))
    go true f = in-it (ltb-true d (month_days y m) f)
    go false f = at_end (ltb m 12) refl (omega (arith, ltb-false d (month_days y m) f, r.last_day))

pub new_year_is : (n : ℕ) → new_year n ≡ years_days (year_of n - 1900)
unfolding new_year
new_year_is n = refl

-- the date of a real date's number, part by part
pub year_of_number : (d m y : ℕ) → is_date d m y ≡ true → year_of (day_number d m y) ≡ y
unfolding year_of
year_of_number d m y e =
    let r = real d m y e in
    omega (arith, r.first_year, last_is years_days years_rise 199 (y - 1900) (day_number d m y) (omega (arith, r.last_year)) (number_low d m y) (number_high d m y r))

-- the days since 1 January
since : (d m y : ℕ) → is_date d m y ≡ true → day_number d m y - new_year (day_number d m y) ≡ months_days y (m - 1) + (d - 1)
unfolding day_number
since d m y e =
    let a : years_days (year_of (day_number d m y) - 1900) ≡ years_days (y - 1900) = ap (λ (i : ℕ). years_days (i - 1900)) (year_of_number d m y e) in
    omega (arith, new_year_is (day_number d m y))

pub month_of_number : (d m y : ℕ) → is_date d m y ≡ true → month_of (day_number d m y) ≡ m
unfolding month_of
month_of_number d m y e =
    let r = real d m y e in
    let low : months_days y (m - 1) ≤ months_days y (m - 1) + (d - 1) = omega arith in
    let s : suc (m - 1) ≡ m = omega (arith, r.first_month) in
    let high : months_days y (m - 1) + (d - 1) < months_days y (suc (m - 1)) = subst (λ (i : ℕ). months_days y (m - 1) + (d - 1) < months_days y i) (sym s) (omega (arith, month_next y m r.first_month, r.first_day, r.last_day)) in
    rw (year_of_number d m y e, since d m y e)
    (omega (arith, r.first_month, last_is (months_days y) (months_rise y) 11 (m - 1) (months_days y (m - 1) + (d - 1)) (omega (arith, r.last_month)) low high))

pub day_of_number : (d m y : ℕ) → is_date d m y ≡ true → day_of (day_number d m y) ≡ d
unfolding day_of
day_of_number d m y e =
    let r = real d m y e in
    rw (year_of_number d m y e, month_of_number d m y e, since d m y e) (omega (arith, r.first_day))

-- Thursdays up to a day, all counted by sevens: the one place where a formula stands, as a law of the count
pub thursdays_are : (a k : ℕ) → thursdays a k + (a + 3) / 7 ≡ (a + k + 3) / 7
unfolding thursdays weekday
thursdays_are a zero = omega arith
thursdays_are a (suc k) = go (eqb (1 + (a + k) % 7) 4) refl (thursdays_are a k)
  where
    go : (t : Bool) → eqb (1 + (a + k) % 7) 4 ≡ t → thursdays a k + (a + 3) / 7 ≡ (a + k + 3) / 7 → thursdays a k + pick t 1 0 + (a + 3) / 7 ≡ (a + suc k + 3) / 7
    go true e h = omega (arith, eqb-true (1 + (a + k) % 7) 4 e)
    go false e h = let g : 1 + (a + k) % 7 ≢ 4 = eqb-false _ _ e in omega arith

-- the Thursday of a day's week, by sevens
pub thursday_is : (n : ℕ) → thursday_of n ≡ n - n % 7 + 3
unfolding thursday_of monday_of weekday
thursday_is n = omega arith

-- a week's number, by sevens from 1 January to its Thursday
pub week_is : (n : ℕ) → week_of n ≡ (thursday_of n - new_year (thursday_of n)) / 7 + 1
unfolding week_of
week_is n =
    let t = thursday_of n in
    let s = new_year (thursday_of n) in
    omega (arith, thursday_is n, new_year_before t, thursdays_are s (t - s + 1))

-- the same from what the code finds: the Thursday, its year, that year's 1 January
pub week_found : (n t y s : ℕ) → t ≡ thursday_of n → y ≡ year_of t → s ≡ years_days (y - 1900) → (t - s) / 7 + 1 ≡ week_of n
week_found n t y s e f g =
    let h : new_year t ≡ new_year (thursday_of n) = ap new_year e in
    omega (arith, week_is n, new_year_found t y s f g)

-- a day of the calendar has its Thursday in the calendar
pub thursday_in : (n : ℕ) → n ≤ 73048 → thursday_of n ≤ 73048
thursday_in n h = omega (arith, thursday_is n)

-- days of one year have one 1 January
pub one_year : (a b : ℕ) → b ≤ 73048 → a ≤ b → new_year b ≤ a → new_year a ≡ new_year b
unfolding new_year
one_year a b h p q =
    let k = year_of b - 1900 in
    let c : a < years_days (suc k) = omega (arith, next_year_after b h, new_year_is b, year_next (year_of b) (year_low b)) in
    let e : year_of a - 1900 ≡ k = year_index a ∙ last_is years_days years_rise 199 k a (omega (arith, year_high b)) q c in
    ap years_days e

-- the next 1 January is a year away
pub next_new_year : (a b : ℕ) → a < new_year b → new_year a + 365 ≤ new_year b
unfolding new_year
next_new_year a b h =
    let j = year_of a - 1900 in
    let k = year_of b - 1900 in
    either (ltb j k)
    (λ e. omega (arith, years_to (suc j) k (ltb-true j k e), year_next (year_of a) (year_low a), year_least (year_of a)))
    (λ e. absurd (omega (arith, years_to k j (ltb-false j k e), new_year_is a, new_year_before a)))
