-- The laws that pin the calendar, to be held beside any almanac: the day after a date has the next number, numbers and dates are inverse,
-- the weekday moves on by one each day, the week's number changes on Mondays only, a year has 52 or 53 weeks.
-- A day lies between its year's first day and the next year's, and so with months (`Real` in the crate `dates`); the steps are in
-- `Turns` of `weeks`.
use Rattle.std.specs.Prelude.{◌≡◌, refl, Bool, true, false, List, ◌≢◌, ℕ, ◌+◌, ◌-◌, ◌%◌, ◌≤◌, ◌<◌, eqb, ltb}
use Rattle.std.proofs.Common.{sym, ap, ◌∙◌, arith, ltb-true, ltb-false, eqb-true, ne_eqb}
use Rattle.std.proofs.lemmas.Bool.{eqb-false}
use Rattle.laws.specs.Tests.{pick, one_of, either, clash}
use Rattle.dates.specs.Dates.{within, year_days, is_date, years_days, day_number, year_of, new_year, month_of, day_of, date_of, number_of, tomorrow}
use Rattle.weeks.specs.Weeks.{weekday, thursday_of, week_of, weeks_in}
use Rattle.signs.specs.Signs.{is_day_sign, is_workday, is_restday, sign_fits}
use Rattle.dates.proofs.Real.{within_true, real, real_is, number_day, year_least, year_most, month_next, month_least, year_low, year_high, new_year_before, next_year_after, month_low, month_high, month_before, next_month_after}
use Rattle.weeks.proofs.Turns.{in_month, month_end, year_end, by_tomorrow, not_the_last, new_year_is, year_of_number, month_of_number, day_of_number, thursdays_are, thursday_is, thursday_in, week_is, one_year, next_new_year}

-- THE DAY AFTER a real date has the next number, over the ends of months and years
pub next_number : (d m y : ℕ) → is_date d m y ≡ true → number_of (tomorrow d m y) ≡ day_number d m y + 1
next_number d m y e =
    let r = real d m y e in
    by_tomorrow (λ t. number_of t ≡ day_number d m y + 1) d m y r
    (λ h. in_month d m y r.first_day)
    (λ h k. month_end d m y r.first_month r.first_day h)
    (λ h k. year_end d m y r.first_year r.first_day h k)

-- INVERSE: the number of a day's date is its number
pub number_of_date : (n : ℕ) → day_number (day_of n) (month_of n) (year_of n) ≡ n
unfolding day_number day_of
number_of_date n = omega (arith, new_year_is n, new_year_before n, month_before n)

-- INVERSE: the date of a real date's number is that date
pub date_of_number : (d m y : ℕ) → is_date d m y ≡ true → date_of (day_number d m y) ≡ (d, m, y)
date_of_number d m y e = rw (day_of_number d m y e, month_of_number d m y e, year_of_number d m y e)

-- the numbers of real dates are days
pub number_is_day : (d m y : ℕ) → is_date d m y ≡ true → day_number d m y ≤ 73048
number_is_day d m y e = number_day d m y (real d m y e)

-- a day's date is a real one
pub date_is_real : (n : ℕ) → n ≤ 73048 → is_date (day_of n) (month_of n) (year_of n) ≡ true
unfolding day_of
date_is_real n h =
    let y = year_of n in
    let m = month_of n in
    real_is (day_of n) m y (omega (arith, year_low n, year_high n, month_low n, month_high n, next_month_after n h, month_next y m (month_low n), month_before n))

-- the day after a real date is a real date, but for 31 December 2099
pub tomorrow_is_real : (d m y : ℕ) → is_date d m y ≡ true → day_number d m y < 73048 → is_date (tomorrow d m y).0 (tomorrow d m y).1 (tomorrow d m y).2 ≡ true
tomorrow_is_real d m y e n =
    let r = real d m y e in
    by_tomorrow (λ t. is_date t.0 t.1 t.2 ≡ true) d m y r
    (λ h. real_is (d + 1) m y (omega arith))
    (λ h k. real_is 1 (m + 1) y (omega (arith, month_least y (m + 1) (omega arith) (omega arith))))
    (λ h k. real_is 1 1 (y + 1) (omega (arith, not_the_last d m y r h k n, month_least (y + 1) 1 (omega arith) (omega arith))))

-- THE DATE OF THE NEXT DAY is tomorrow's
pub next_date : (n : ℕ) → n < 73048 → date_of (n + 1) ≡ tomorrow (day_of n) (month_of n) (year_of n)
next_date n h =
    let i : is_date (day_of n) (month_of n) (year_of n) ≡ true = date_is_real n (omega arith) in
    let t = tomorrow (day_of n) (month_of n) (year_of n) in
    let e : number_of t ≡ n + 1 = next_number _ _ _ i ∙ rw (number_of_date n) in
    let g : is_date t.0 t.1 t.2 ≡ true = tomorrow_is_real _ _ _ i (rw (number_of_date n) h) in
    ap date_of (sym e) ∙ date_of_number t.0 t.1 t.2 g

-- WEEKDAYS are 1 to 7
pub weekday_is : (n : ℕ) → (1 ≤ weekday n) × (weekday n ≤ 7)
unfolding weekday
weekday_is n = omega arith

-- WEEKDAYS: each day the next one, and Monday after Sunday
pub weekday_moves_on : (n : ℕ) → weekday (n + 1) ≡ pick (eqb (weekday n) 7) 1 (weekday n + 1)
unfolding weekday
weekday_moves_on n = go (eqb (1 + n % 7) 7) refl
  where
    go : (t : Bool) → eqb (1 + n % 7) 7 ≡ t → 1 + (n + 1) % 7 ≡ pick t 1 (1 + n % 7 + 1)
    go true e = omega (arith, eqb-true (1 + n % 7) 7 e)
    go false e = let h : 1 + n % 7 ≢ 7 = eqb-false _ _ e in omega arith

-- A YEAR HAS 52 OR 53 WEEKS
pub year_has_weeks : (y : ℕ) → (52 ≤ weeks_in y) × (weeks_in y ≤ 53)
unfolding weeks_in
year_has_weeks y =
    let a = years_days (y - 1900) in
    (omega (arith, thursdays_are a (year_days y), year_least y, year_most y), omega (arith, thursdays_are a (year_days y), year_least y, year_most y))

-- THE WEEK'S NUMBER stays within a week
pub week_stays : (n : ℕ) → weekday (n + 1) ≢ 1 → week_of (n + 1) ≡ week_of n
unfolding week_of weekday
week_stays n h =
    let e : thursday_of (n + 1) ≡ thursday_of n = omega (arith, thursday_is n, thursday_is (n + 1)) in
    rw e

-- and changes on each Monday
pub week_changes : (n : ℕ) → n < 73048 → weekday (n + 1) ≡ 1 → week_of (n + 1) ≢ week_of n
unfolding weekday
week_changes n h m =
    let t = thursday_of n in
    let u = thursday_of (n + 1) in
    let e : u ≡ t + 7 = omega (arith, thursday_is n, thursday_is (n + 1)) in
    let i : u ≤ 73048 = thursday_in (n + 1) (omega arith) in
    either (ltb t (new_year u))
    (λ a. omega (arith, week_is n, week_is (n + 1), next_new_year t u (ltb-true t (new_year u) a), ltb-true t (new_year u) a, new_year_before t, new_year_before u))
    (λ a. omega (arith, week_is n, week_is (n + 1), one_year t u i (omega arith) (ltb-false t (new_year u) a), new_year_before t, new_year_before u))

-- a week's number is one of its year's, which is the year of its Thursday
pub week_in_year : (n : ℕ) → n ≤ 73048 → (1 ≤ week_of n) × (week_of n ≤ weeks_in (year_of (thursday_of n)))
unfolding weeks_in
week_in_year n h =
    let t = thursday_of n in
    let f = thursdays_are (years_days (year_of t - 1900)) (year_days (year_of t)) in
    let a = next_year_after t (thursday_in n h) in
    (omega (arith, week_is n), omega (arith, week_is n, thursday_is n, new_year_is t, new_year_before t))

-- SIGNS: a byte that is no day sign fits no day
pub no_sign_fits_none : (sign d : ℕ) (holidays : List ℕ) → is_day_sign sign ≡ false → sign_fits sign d holidays ≡ false
unfolding is_day_sign sign_fits
no_sign_fits_none sign d holidays e = go (eqb sign 88) (eqb sign 43) (within 49 sign 55) e (λ f. ne_eqb sign (48 + weekday d) (digit f))
  where
    digit : within 49 sign 55 ≡ false → sign ≡ 48 + weekday d → ⊥
    digit f g = let w = weekday_is d in clash (within_true 49 sign 55 (omega arith) (omega arith)) f

    go : (a b c : Bool) → one_of a (one_of b c) ≡ false → (c ≡ false → eqb sign (48 + weekday d) ≡ false)
        → pick a (is_workday d holidays) (pick b (is_restday d holidays) (eqb sign (48 + weekday d))) ≡ false
    go true b c f k = clash refl f
    go false true c f k = clash refl f
    go false false c f k = k f
