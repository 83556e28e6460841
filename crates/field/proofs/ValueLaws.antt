-- Laws of texts and of the values of digits. A text of one byte is seen from that byte; digits that are left, a part of digits, and
-- what n digits are worth: less than 10 to the n.
use mathlib.Core.Path.{◌≡◌, refl}
use mathlib.Core.Bool.{Bool, true, false}
use mathlib.Core.List.{[], ◌∷◌}
use Prim.Native.Nat.{ℕ, zero, suc, ◌+◌, ◌-◌, ◌*◌, ◌^◌, ◌≤◌, ◌<◌}
use native.Mathlib.Nat.{pow-le-pow_right, pow-suc, add-zero, zero-add}
use native.Mathlib.Numerals.{add-one}
use native.Mathlib.Omega.{arith}
use lib.Dec.{eqb, leb}
use lib.ListN.{length, get_or, take, drop, drop_of_length-le}
use lib.Seq.{drop-cons}
use borrow.Author.Tests.{leb-true, le-leb, lt-leb}
use Rattle.std.specs.Prelude.{◌&&◌}
use Rattle.std.specs.List.{list_all}
use Rattle.laws.specs.Tests.{both, both_left, both_right}
use Rattle.dates.specs.Dates.{is_date}
use Rattle.file.specs.Format.{Text}
use Rattle.field.specs.Values.{is_byte, is_digit, all_digits, is_digits, value_from, value, is_date_text, day_part, month_part, year_part, is_time, hour_part, minute_part, minute_of}

-- a text of one byte is that byte, and no other text is
pub byte_other : (t : Text) (b : ℕ) → (length t ≡ 1 → ⊥) → is_byte b t ≡ false
unfolding is_byte
byte_other [] b h = refl
byte_other (x ∷ []) b h = absurd (h refl)
byte_other (x ∷ y ∷ t) b h = refl

pub byte_one : (t : Text) (b : ℕ) → length t ≡ 1 → is_byte b t ≡ eqb (get_or t 0 0) b
unfolding is_byte
byte_one [] b h = absurd (omega arith)
byte_one (x ∷ []) b h = refl
byte_one (x ∷ y ∷ t) b h = absurd (omega arith)

-- a digit by its bounds
pub digit_low : (b : ℕ) → b < 48 → is_digit b ≡ false
unfolding is_digit
digit_low b h = rw (lt-leb 48 b h)

pub digit_high : (b : ℕ) → 57 < b → is_digit b ≡ false
unfolding is_digit
digit_high b h = rw (lt-leb b 57 h) (go (leb 48 b))
  where
    go : (t : Bool) → both t false ≡ false
    go true = refl
    go false = refl

pub digit_is : (b : ℕ) → 48 ≤ b → b ≤ 57 → is_digit b ≡ true
unfolding is_digit
digit_is b p q = rw (le-leb 48 b p, le-leb b 57 q)

pub digit_bounds : (b : ℕ) → is_digit b ≡ true → (48 ≤ b) × (b ≤ 57)
unfolding is_digit
digit_bounds b e = (leb-true _ _ (both_left (leb 48 b) (leb b 57) e), leb-true _ _ (both_right (leb 48 b) (leb b 57) e))

-- the library's test of a whole list, with the definition's
pub whole_digits : (t : Text) → list_all is_digit t ≡ all_digits t
unfolding all_digits
whole_digits [] = refl
whole_digits (b ∷ t) = go (is_digit b) (whole_digits t)
  where
    go : (p : Bool) {r s : Bool} → r ≡ s → (p && r) ≡ both p s
    go true e = e
    go false e = refl

-- digits from i on
module _ (t : Text) (i : ℕ) (h : i < length t) where
  pub first_digit : all_digits (drop i t) ≡ true → is_digit (get_or t i 0) ≡ true
  unfolding all_digits
  first_digit e = both_left (is_digit (get_or t i 0)) (all_digits (drop (suc i) t)) (rw (drop-cons t i 0 h) at e)

  pub other_digits : all_digits (drop i t) ≡ true → all_digits (drop (i + 1) t) ≡ true
  unfolding all_digits
  other_digits e = rw add-one (both_right (is_digit (get_or t i 0)) (all_digits (drop (suc i) t)) (rw (drop-cons t i 0 h) at e))

  -- one digit more
  pub value_next : (v : ℕ) → value_from v (drop i t) ≡ value_from (v * 10 + (get_or t i 0 - 48)) (drop (i + 1) t)
  unfolding value_from
  value_next v = rw (add-one, drop-cons t i 0)

pub value_done : (t : Text) (i v : ℕ) → length t ≤ i → value_from v (drop i t) ≡ v
unfolding value_from
value_done t i v h = rw (drop_of_length-le t h)

-- a part of digits is digits
pub digits_drop : (t : Text) (n : ℕ) → all_digits t ≡ true → all_digits (drop n t) ≡ true
unfolding all_digits
digits_drop t zero e = e
digits_drop [] (suc n) e = refl
digits_drop (b ∷ t) (suc n) e = digits_drop t n (both_right (is_digit b) (all_digits t) e)

pub digits_take : (t : Text) (n : ℕ) → all_digits t ≡ true → all_digits (take n t) ≡ true
unfolding all_digits
digits_take t zero e = refl
digits_take [] (suc n) e = refl
digits_take (b ∷ t) (suc n) e = rw (both_left (is_digit b) (all_digits t) e) (digits_take t n (both_right (is_digit b) (all_digits t) e))

-- i digits are worth less than 10 to the i
pub power_next : (i v d : ℕ) → v < 10 ^ i → d ≤ 9 → v * 10 + d < 10 ^ (i + 1)
power_next i v d h g = rw (add-one, pow-suc) (omega arith)

pub power_most : (i n : ℕ) → i ≤ n → 10 ^ i ≤ 10 ^ n
power_most i n h = pow-le-pow_right (omega arith) h

value_under : (t : Text) (v i : ℕ) → all_digits t ≡ true → v < 10 ^ i → value_from v t < 10 ^ (i + length t)
unfolding value_from all_digits
value_under [] v i e h = rw add-zero h
value_under (b ∷ t) v i e h =
    let d = digit_bounds b (both_left (is_digit b) (all_digits t) e) in
    let p : v * 10 + (b - 48) < 10 ^ (i + 1) = power_next i v (b - 48) h (omega arith) in
    let q : i + 1 + length t ≡ i + suc (length t) = omega arith in
    rw q at (value_under t (v * 10 + (b - 48)) (i + 1) (both_right (is_digit b) (all_digits t) e) p)

pub value_bound : (t : Text) → all_digits t ≡ true → value t < 10 ^ length t
value_bound t e = rw zero-add at (value_under t 0 0 e (omega arith))

-- from a to b digits
pub record Digits (a b : ℕ) (t : Text) : Type 0 where
  pub digits : all_digits t ≡ true
  pub least : a ≤ length t
  pub most : length t ≤ b

pub digits_are : (a b : ℕ) (t : Text) → is_digits a b t ≡ true → Digits a b t
digits_are a b t e =
    let low = leb a (length t) in
    let high = leb (length t) b in
    let p : both low high ≡ true = both_left (both low high) (all_digits t) e in
    record {
      digits = both_right (both low high) (all_digits t) e;
      least = leb-true _ _ (both_left low high p);
      most = leb-true _ _ (both_right low high p);
    }

-- and what they are worth at most
pub digits_bound : (a b : ℕ) (t : Text) → is_digits a b t ≡ true → value t < 10 ^ b
digits_bound a b t e = let d = digits_are a b t e in omega (arith, value_bound t d.digits, power_most (length t) b d.most)

-- what a date says of its digits and of its parts
module _ (t : Text) where
  pub date_digits : is_date_text t ≡ true → Digits 8 8 t
  unfolding is_date_text
  date_digits e = digits_are 8 8 t (both_left (is_digits 8 8 t) (is_date (day_part t) (month_part t) (year_part t)) e)

  pub date_real : is_date_text t ≡ true → is_date (day_part t) (month_part t) (year_part t) ≡ true
  unfolding is_date_text
  date_real e = both_right (is_digits 8 8 t) (is_date (day_part t) (month_part t) (year_part t)) e

-- and a time of its own
module _ (t : Text) where
  abbrev in_day : Bool
  in_day = both (leb (hour_part t) 23) (leb (minute_part t) 59)

  pub time_digits : is_time t ≡ true → Digits 4 4 t
  unfolding is_time
  time_digits e = digits_are 4 4 t (both_left (is_digits 4 4 t) in_day e)

  pub time_bounds : is_time t ≡ true → (hour_part t ≤ 23) × (minute_part t ≤ 59)
  unfolding is_time
  time_bounds e =
      let p : in_day ≡ true = both_right (is_digits 4 4 t) in_day e in
      (leb-true _ _ (both_left (leb (hour_part t) 23) (leb (minute_part t) 59) p), leb-true _ _ (both_right (leb (hour_part t) 23) (leb (minute_part t) 59) p))

  -- its minute is one of the day's 1440
  pub minute_bound : is_time t ≡ true → minute_of t ≤ 1439
  unfolding minute_of
  minute_bound e = let b = time_bounds e in omega arith
