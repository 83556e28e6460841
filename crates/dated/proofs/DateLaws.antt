-- Dates in the order of their days: of two real dates the one with the smaller rank has the smaller day number, by year, month and day.
use mathlib.Core.Path.{◌≡◌, sym, ap, subst, ◌∙◌}
use mathlib.Core.Bool.{true}
use Prim.Native.Nat.{ℕ, suc, ◌+◌, ◌-◌, ◌*◌, ◌≤◌, ◌<◌}
use native.Mathlib.Omega.{arith}
use lib.Dec.{leb, ltb}
use lib.ListN.{length, take, drop, length-drop}
use lib.Seq.{take_all}
use borrow.Author.Tests.{ltb-true, ltb-false, leb-true, leb-false, le-leb, lt-leb, ne_eqb}
use Rattle.laws.specs.Tests.{either}
use Rattle.dates.specs.Dates.{day_number}
use Rattle.dates.proofs.Real.{Real, real, years_to, months_to, month_next, month_most, number_low, number_high}
use Rattle.file.specs.Format.{Text}
use Rattle.field.specs.Values.{value, is_date_text, day_part, month_part, year_part, day_of_text}
use Rattle.field.specs.Rules.{closes}
use Rattle.field.proofs.ValueLaws.{date_digits, date_real}
use Rattle.dated.specs.Dates.{rank, ranked}

-- a real date's day has two digits
day_most : (d m y : ℕ) → Real d m y → d ≤ 31
day_most d m y r = omega (arith, r.last_day, month_most y m (omega (arith, r.last_month)))

-- in an earlier year, in an earlier month of a year, on an earlier day of a month
year_before : (d m y d' m' y' : ℕ) → Real d m y → y < y' → day_number d m y < day_number d' m' y'
year_before d m y d' m' y' r h =
    omega (arith, number_high d m y r, years_to (suc (y - 1900)) (y' - 1900) (omega (arith, r.first_year)), number_low d' m' y')

month_before : (d m d' m' y : ℕ) → Real d m y → m < m' → day_number d m y < day_number d' m' y
unfolding day_number
month_before d m d' m' y r h =
    omega (arith, month_next y m r.first_month, months_to y m (m' - 1) (omega arith), r.first_day, r.last_day)

day_before : (d d' m y : ℕ) → 1 ≤ d → d < d' → day_number d m y < day_number d' m y
unfolding day_number
day_before d d' m y p h = omega arith

-- two dates of one year
in_year : (d m d' m' y : ℕ) → Real d m y → d' ≤ 31 → m * 100 + d < m' * 100 + d' → day_number d m y < day_number d' m' y
in_year d m d' m' y r k h =
    either (ltb m m')
    (λ e. month_before d m d' m' y r (ltb-true m m' e))
    (λ e.
    let a : m ≡ m' = omega (arith, ltb-false m m' e) in
    let b : d < d' = omega arith in
    subst (λ (i : ℕ). day_number d m y < day_number d' i y) a (day_before d d' m y r.first_day b))

-- a smaller rank, the same rank
ranks_below : (d m y d' m' y' : ℕ) → Real d m y → Real d' m' y' → rank d m y < rank d' m' y' → day_number d m y < day_number d' m' y'
ranks_below d m y d' m' y' r s h =
    let k : d' ≤ 31 = day_most d' m' y' s in
    let l : m' ≤ 12 = s.last_month in
    either (ltb y y')
    (λ e. year_before d m y d' m' y' r (ltb-true y y' e))
    (λ e.
    let a : y ≡ y' = omega (arith, ltb-false y y' e) in
    let b : m * 100 + d < m' * 100 + d' = omega arith in
    subst (λ (i : ℕ). day_number d m y < day_number d' m' i) a (in_year d m d' m' y r k b))

ranks_same : (d m y d' m' y' : ℕ) → Real d m y → Real d' m' y' → rank d m y ≡ rank d' m' y' → day_number d m y ≡ day_number d' m' y'
ranks_same d m y d' m' y' r s h =
    let i : d ≤ 31 = day_most d m y r in
    let j : m ≤ 12 = r.last_month in
    let k : d' ≤ 31 = day_most d' m' y' s in
    let l : m' ≤ 12 = s.last_month in
    let a : y ≡ y' = omega arith in
    let b : m ≡ m' = omega arith in
    let c : d ≡ d' = omega arith in
    rw (a, b, c)

ranks_to : (d m y d' m' y' : ℕ) → Real d m y → Real d' m' y' → rank d m y ≤ rank d' m' y' → day_number d m y ≤ day_number d' m' y'
ranks_to d m y d' m' y' r s h =
    either (ltb (rank d m y) (rank d' m' y'))
    (λ e. omega (arith, ranks_below d m y d' m' y' r s (ltb-true (rank d m y) (rank d' m' y') e)))
    (λ e.
    let a : rank d m y ≡ rank d' m' y' = omega (arith, ltb-false (rank d m y) (rank d' m' y') e) in
    omega (arith, ranks_same d m y d' m' y' r s a))

-- so the ranks of two real dates compare as their day numbers do
pub ranks_order : (d m y d' m' y' : ℕ) → Real d m y → Real d' m' y'
    → leb (day_number d m y) (day_number d' m' y') ≡ leb (rank d m y) (rank d' m' y')
ranks_order d m y d' m' y' r s =
    let n = day_number d m y in
    let n' = day_number d' m' y' in
    let k = rank d m y in
    let k' = rank d' m' y' in
    either (leb k k')
    (λ e. le-leb n n' (ranks_to d m y d' m' y' r s (leb-true k k' e)) ∙ sym e)
    (λ e. lt-leb n n' (ranks_below d' m' y' d m y s r (leb-false k k' e)) ∙ sym e)

-- and with two dates that are given, what closes is asked of their ranks
pub closes_ranked : (from to : Text) → (length from ≡ 0 → ⊥) → (length to ≡ 0 → ⊥) → is_date_text from ≡ true → is_date_text to ≡ true
    → leb (ranked from) (ranked to) ≡ closes from to
unfolding closes day_of_text
closes_ranked from to p q f g =
    rw (ne_eqb (length from) 0 p, ne_eqb (length to) 0 q)
    (sym (ranks_order (day_part from) (month_part from) (year_part from) (day_part to) (month_part to) (year_part to) (real _ _ _ (date_real from f)) (real _ _ _ (date_real to g))))

-- a date's parts are small, and its last four digits are the year
module _ (t : Text) (e : is_date_text t ≡ true) where
  pub year_digits : value (take 4 (drop 4 t)) ≡ year_part t
  year_digits =
      let d = date_digits t e in
      let h : length (drop 4 t) ≤ 4 = rw length-drop (omega (arith, d.most)) in
      ap value (take_all 4 (drop 4 t) h)

  pub parts_most : (day_part t ≤ 31) × (month_part t ≤ 12) × (year_part t ≤ 2099)
  parts_most =
      let r = real (day_part t) (month_part t) (year_part t) (date_real t e) in
      (day_most (day_part t) (month_part t) (year_part t) r, r.last_month, r.last_year)
