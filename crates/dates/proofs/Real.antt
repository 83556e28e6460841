-- What is known of a real date and of the date of a day: bounds that the laws and the code's proofs cite.
-- A year is its twelve months, so the days before a date in its year are fewer than the year's; beginnings of years and months never fall.
use Rattle.std.specs.Prelude.{◌≡◌, refl, Bool, true, false, ◌≢◌, ℕ, zero, suc, ◌+◌, ◌-◌, ◌≤◌, ◌<◌, leb, get_or}
use Rattle.std.proofs.Common.{ap, subst, ◌∙◌, add-one, arith, leb-true, le-leb, leb→le}
use Rattle.std.proofs.Math.ListN.{get_or-eq_default}
use Rattle.laws.specs.Below.{below}
use Rattle.laws.specs.Tests.{pick, both, both_left, both_right, both_true}
use Rattle.dates.specs.Dates.{within, leap, year_days, months, month_days, is_date, years_days, months_days, day_number, last_begun, year_of, new_year, month_of}
use Rattle.dates.proofs.Counting.{last_le, last_begun_lem, last_next, last_is, last_top, rises}

within_low : (a x b : ℕ) → within a x b ≡ true → a ≤ x
within_low a x b e = leb-true _ _ (both_left (leb a x) (leb x b) e)

within_high : (a x b : ℕ) → within a x b ≡ true → x ≤ b
within_high a x b e = leb-true _ _ (both_right (leb a x) (leb x b) e)

pub within_true : (a x b : ℕ) → a ≤ x → x ≤ b → within a x b ≡ true
within_true a x b p q = both_true _ _ (le-leb _ _ p) (le-leb _ _ q)

-- a real date by its bounds
pub record Real (d m y : ℕ) : Type 0 where
  pub first_year : 1900 ≤ y
  pub last_year : y ≤ 2099
  pub first_month : 1 ≤ m
  pub last_month : m ≤ 12
  pub first_day : 1 ≤ d
  pub last_day : d ≤ month_days y m

pub real : (d m y : ℕ) → is_date d m y ≡ true → Real d m y
unfolding is_date
real d m y e =
    let year = within 1900 y 2099 in
    let month = within 1 m 12 in
    let day = within 1 d (month_days y m) in
    let a : year ≡ true = both_left year (both month day) e in
    let rest : both month day ≡ true = both_right year (both month day) e in
    let b : month ≡ true = both_left month day rest in
    let c : day ≡ true = both_right month day rest in
    record {
      first_year = within_low _ _ _ a;
      last_year = within_high _ _ _ a;
      first_month = within_low _ _ _ b;
      last_month = within_high _ _ _ b;
      first_day = within_low _ _ _ c;
      last_day = within_high _ _ _ c;
    }

pub real_is : (d m y : ℕ) → Real d m y → is_date d m y ≡ true
unfolding is_date
real_is d m y r =
    both_true _ _ (within_true _ _ _ r.first_year r.last_year)
    (both_true _ _ (within_true _ _ _ r.first_month r.last_month) (within_true _ _ _ r.first_day r.last_day))

-- the twelve months are the year
pub twelve : (y : ℕ) → months_days y 12 ≡ year_days y
unfolding months_days month_days months year_days
twelve y = go (leap y)
  where
    go : (t : Bool) → 0 + 31 + pick t 29 28 + 31 + 30 + 31 + 30 + 31 + 31 + 30 + 31 + 30 + 31 ≡ pick t 366 365
    go true = refl
    go false = refl

pub year_least : (y : ℕ) → 365 ≤ year_days y
unfolding year_days
year_least y = go (leap y)
  where
    go : (t : Bool) → 365 ≤ pick t 366 365
    go true = omega arith
    go false = omega arith

pub year_most : (y : ℕ) → year_days y ≤ 366
unfolding year_days
year_most y = go (leap y)
  where
    go : (t : Bool) → pick t 366 365 ≤ 366
    go true = omega arith
    go false = omega arith

pub years_rise : (k : ℕ) → years_days k ≤ years_days (suc k)
unfolding years_days
years_rise k = omega arith

pub months_rise : (y k : ℕ) → months_days y k ≤ months_days y (suc k)
unfolding months_days
months_rise y k = omega arith

-- the same, up to a later one
pub years_to : (j k : ℕ) → j ≤ k → years_days j ≤ years_days k
years_to j k h =
    let e : j + (k - j) ≡ k = omega arith in
    subst (λ (i : ℕ). years_days j ≤ years_days i) e (rises years_days years_rise j (k - j))

pub months_to : (y j k : ℕ) → j ≤ k → months_days y j ≤ months_days y k
months_to y j k h =
    let e : j + (k - j) ≡ k = omega arith in
    subst (λ (i : ℕ). months_days y j ≤ months_days y i) e (rises (months_days y) (months_rise y) j (k - j))

-- the two centuries
pub all_years : years_days 200 ≡ 73049
unfolding years_days year_days leap
all_years = refl

no_years : (n : ℕ) → years_days 0 ≤ n
unfolding years_days
no_years n = omega arith

no_months : (y n : ℕ) → months_days y 0 ≤ n
unfolding months_days
no_months y n = omega arith

-- one year, one month further
pub year_next : (y : ℕ) → 1900 ≤ y → years_days (suc (y - 1900)) ≡ years_days (y - 1900) + year_days y
unfolding years_days
year_next y h =
    let e : 1900 + (y - 1900) ≡ y = omega arith in
    ap (λ (i : ℕ). years_days (y - 1900) + year_days i) e

pub month_next : (y m : ℕ) → 1 ≤ m → months_days y m ≡ months_days y (m - 1) + month_days y m
unfolding months_days
month_next y zero h = absurd (omega arith)
month_next y (suc m) h =
    let e : m ≡ suc m - 1 = omega arith in
    ap (λ (i : ℕ). months_days y i + month_days y (suc m)) e

-- the days of a real date's year that lie before it are fewer than the year's
pub before : (d m y : ℕ) → Real d m y → months_days y (m - 1) + (d - 1) < year_days y
before d m y r = omega (arith, month_next y m r.first_month, months_to y m 12 r.last_month, twelve y, r.last_day, r.first_day)

-- a real date's number lies within its year, and within the calendar
pub number_low : (d m y : ℕ) → years_days (y - 1900) ≤ day_number d m y
unfolding day_number
number_low d m y = omega arith

pub number_high : (d m y : ℕ) → Real d m y → day_number d m y < years_days (suc (y - 1900))
unfolding day_number
number_high d m y r = omega (arith, before d m y r, year_next y r.first_year)

pub number_day : (d m y : ℕ) → Real d m y → day_number d m y ≤ 73048
number_day d m y r = omega (arith, number_high d m y r, years_to (suc (y - 1900)) 200 (omega (arith, r.last_year)), all_years)

-- the year that a day lies in
pub year_index : (n : ℕ) → year_of n - 1900 ≡ last_begun years_days 199 n
unfolding year_of
year_index n = omega arith

pub year_low : (n : ℕ) → 1900 ≤ year_of n
unfolding year_of
year_low n = omega arith

pub year_high : (n : ℕ) → year_of n ≤ 2099
unfolding year_of
year_high n = omega (arith, last_le years_days 199 n)

pub new_year_before : (n : ℕ) → new_year n ≤ n
unfolding new_year
new_year_before n = rw (year_index n) (last_begun_lem years_days 199 n (no_years n))

pub next_year_after : (n : ℕ) → n ≤ 73048 → n < new_year n + year_days (year_of n)
unfolding new_year
next_year_after n h =
    let a : n < years_days 200 = omega (arith, all_years) in
    let b : n < years_days (suc (last_begun years_days 199 n)) = last_next years_days 199 n a in
    let c : n < years_days (suc (year_of n - 1900)) = rw (year_index n) b in
    omega (arith, year_next (year_of n) (year_low n))

-- the month that a day lies in
pub month_index : (n : ℕ) → month_of n - 1 ≡ last_begun (months_days (year_of n)) 11 (n - new_year n)
unfolding month_of
month_index n = omega arith

pub month_low : (n : ℕ) → 1 ≤ month_of n
unfolding month_of
month_low n = omega arith

pub month_high : (n : ℕ) → month_of n ≤ 12
unfolding month_of
month_high n = omega (arith, last_le (months_days (year_of n)) 11 (n - new_year n))

pub month_before : (n : ℕ) → months_days (year_of n) (month_of n - 1) ≤ n - new_year n
month_before n = rw (month_index n) (last_begun_lem (months_days (year_of n)) 11 (n - new_year n) (no_months (year_of n) _))

pub next_month_after : (n : ℕ) → n ≤ 73048 → n - new_year n < months_days (year_of n) (month_of n)
next_month_after n h =
    let a : n - new_year n < months_days (year_of n) 12 = omega (arith, twelve (year_of n), next_year_after n h, new_year_before n) in
    let b : n - new_year n < months_days (year_of n) (suc (last_begun (months_days (year_of n)) 11 (n - new_year n))) = last_next (months_days (year_of n)) 11 (n - new_year n) a in
    let e : suc (last_begun (months_days (year_of n)) 11 (n - new_year n)) ≡ month_of n = omega (arith, month_index n, month_low n) in
    subst (λ (i : ℕ). n - new_year n < months_days (year_of n) i) e b

-- a turn of a loop that counts years or months
pub years_step : (k : ℕ) → years_days (k + 1) ≡ years_days k + year_days (1900 + k)
unfolding years_days
years_step k = rw add-one

pub months_step : (y k : ℕ) → months_days y (k + 1) ≡ months_days y k + month_days y (k + 1)
unfolding months_days
months_step y k = rw add-one

-- where such a loop ends: at the first year or month whose end is past the day, or at the last one
pub year_is : (k n : ℕ) → k ≤ 199 → years_days k ≤ n → n < years_days (k + 1) → 1900 + k ≡ year_of n
unfolding year_of
year_is k n h p q = omega (arith, last_is years_days years_rise 199 k n h p (rw add-one at q))

pub year_top : (k n : ℕ) → k ≡ 199 → years_days k ≤ n → 1900 + k ≡ year_of n
unfolding year_of
year_top k n e p = omega (arith, last_top years_days 199 n (no_years n) (rw e at p))

pub month_is : (y k n : ℕ) → k ≤ 11 → months_days y k ≤ n → n < months_days y (k + 1) → 1 + k ≡ 1 + last_begun (months_days y) 11 n
month_is y k n h p q = omega (arith, last_is (months_days y) (months_rise y) 11 k n h p (rw add-one at q))

pub month_top : (y k n : ℕ) → k ≡ 11 → months_days y k ≤ n → 1 + k ≡ 1 + last_begun (months_days y) 11 n
month_top y k n e p = omega (arith, last_top (months_days y) 11 n (no_months y n) (rw e at p))

-- what the code finds of a day, one after the other
pub year_found : (n y : ℕ) → y ≡ year_of n → (1900 ≤ y) × (y ≤ 2099)
year_found n y e = (omega (arith, year_low n), omega (arith, year_high n))

pub new_year_at : (n y : ℕ) → y ≡ year_of n → years_days (y - 1900) ≡ new_year n
unfolding new_year
new_year_at n y e = rw e

pub new_year_found : (n y s : ℕ) → y ≡ year_of n → s ≡ years_days (y - 1900) → s ≡ new_year n
new_year_found n y s e f = f ∙ new_year_at n y e

pub new_year_passed : (n y s : ℕ) → y ≡ year_of n → s ≡ years_days (y - 1900) → s ≤ n
new_year_passed n y s e f = omega (arith, new_year_found n y s e f, new_year_before n)

pub month_at : (n y left : ℕ) → y ≡ year_of n → left ≡ n - new_year n → 1 + last_begun (months_days y) 11 left ≡ month_of n
unfolding month_of
month_at n y left e f = rw (e, f)

-- a month is at most 31 days; the months but February have the same days in all years; past the twelfth there is none
pub other_month : (m x : ℕ) → m ≢ 2 → get_or (months x) m 0 ≡ get_or (months 28) m 0
unfolding months
other_month zero x h = refl
other_month (suc zero) x h = refl
other_month (suc (suc zero)) x h = absurd (h refl)
other_month (suc (suc (suc m))) x h = refl

pub past_december : (y m : ℕ) → 13 ≤ m → month_days y m ≡ 0
unfolding month_days months
past_december y m h = get_or-eq_default (months (pick (leap y) 29 28)) 0 h

short : (t : Bool) (m : ℕ) → m < 13 → get_or (months (pick t 29 28)) m 0 ≤ 31
unfolding months
short true m h = leb→le _ _ (below 13 (λ (i : ℕ). leb (get_or (months 29) i 0) 31) tt m h)
short false m h = leb→le _ _ (below 13 (λ (i : ℕ). leb (get_or (months 28) i 0) 31) tt m h)

pub month_most : (y m : ℕ) → m < 13 → month_days y m ≤ 31
unfolding month_days
month_most y m h = short (leap y) m h

long : (t : Bool) (m : ℕ) → m < 12 → 28 ≤ get_or (months (pick t 29 28)) (suc m) 0
unfolding months
long true m h = leb→le _ _ (below 12 (λ (i : ℕ). leb 28 (get_or (months 29) (suc i) 0)) tt m h)
long false m h = leb→le _ _ (below 12 (λ (i : ℕ). leb 28 (get_or (months 28) (suc i) 0)) tt m h)

pub month_least : (y m : ℕ) → 1 ≤ m → m ≤ 12 → 28 ≤ month_days y m
unfolding month_days
month_least y zero p q = absurd (omega arith)
month_least y (suc m) p q = long (leap y) m q
