-- The digits of a number, one after the other: they end where a byte is no digit, or the bytes end.
use mathlib.Core.Path.{◌≡◌, refl, sym, ◌∙◌}
use mathlib.Core.Bool.{true}
use mathlib.Core.List.{List, [], ◌∷◌, ◌++◌}
use Prim.Native.Nat.{ℕ, suc, ◌+◌, ◌-◌, ◌*◌, ◌^◌, ◌≤◌, ◌<◌}
use native.Mathlib.Numerals.{add-one}
use native.Mathlib.Omega.{arith}
use lib.ListN.{length, get_or, drop, drop_of_length-le}
use lib.Seq.{drop-cons}
use Rattle.laws.specs.Tests.{both_left, both_right}
use Rattle.file.specs.Bytes.{quote}
use Rattle.field.specs.Values.{is_digit, all_digits, value_from, value}
use Rattle.field.proofs.ValueLaws.{digit_low, digit_high, digit_is, power_next, power_most}
use Rattle.keys.specs.Ranks.{digits_from, NumberIs}

-- the digits from a place on: one more, or none
pub digits_more : (s : List ℕ) (i : ℕ) → i < length s → 48 ≤ get_or s i 0 → get_or s i 0 ≤ 57
    → digits_from (drop i s) ≡ get_or s i 0 ∷ digits_from (drop (i + 1) s)
unfolding digits_from
digits_more s i h p q = rw (add-one, drop-cons s i 0, digit_is (get_or s i 0) p q)

pub digits_low : (s : List ℕ) (i : ℕ) → i < length s → get_or s i 0 < 48 → digits_from (drop i s) ≡ []
unfolding digits_from
digits_low s i h p = rw (drop-cons s i 0, digit_low (get_or s i 0) p)

pub digits_high : (s : List ℕ) (i : ℕ) → i < length s → 57 < get_or s i 0 → digits_from (drop i s) ≡ []
unfolding digits_from
digits_high s i h p = rw (drop-cons s i 0, digit_high (get_or s i 0) p)

pub digits_end : (s : List ℕ) (i : ℕ) → length s ≤ i → digits_from (drop i s) ≡ []
unfolding digits_from
digits_end s i h = rw (drop_of_length-le s h)

-- the digits from i on, after digits from `at` on that are worth v
pub record Passed (s : List ℕ) (at v i : ℕ) : Type 0 where
  pub start : at ≤ i
  pub bound : v < 10 ^ (i - at)
  pub worth : value_from v (digits_from (drop i s)) ≡ value (digits_from (drop at s))
  pub place : i + length (digits_from (drop i s)) ≡ at + length (digits_from (drop at s))

-- before the first, all are left
pub passed_none : (s : List ℕ) (at : ℕ) → Passed s at 0 at
passed_none s at =
    let z : at - at ≡ 0 = omega arith in
    record { start = omega arith; bound = rw z (omega arith); worth = refl; place = refl }

-- none are left: the number is read
pub passed_all : (s : List ℕ) (at v i : ℕ) → Passed s at v i → digits_from (drop i s) ≡ [] → NumberIs (digits_from (drop at s)) at v i
unfolding value_from
passed_all s at v i p e =
    let w : value_from v (digits_from (drop i s)) ≡ v = rw e in
    let n : length (digits_from (drop i s)) ≡ 0 = rw e in
    record { worth = sym w ∙ p.worth; place = omega (arith, p.place) }

-- one more, and it is one of at most nine
module _ (s : List ℕ) (at v i : ℕ) (p : Passed s at v i) (h : i < length s) (low : 48 ≤ get_or s i 0) (high : get_or s i 0 ≤ 57) where
  pub passed_some : length (digits_from (drop at s)) ≤ 9 → v < 100000000
  passed_some m =
      let n : length (digits_from (drop i s)) ≡ suc (length (digits_from (drop (i + 1) s))) = rw (digits_more s i h low high) in
      omega (arith, p.bound, power_most (i - at) 8 (omega (arith, p.place, p.start)))

  pub passed_one : Passed s at (v * 10 + (get_or s i 0 - 48)) (i + 1)
  unfolding value_from
  passed_one =
      let e = digits_more s i h low high in
      let n : length (digits_from (drop i s)) ≡ suc (length (digits_from (drop (i + 1) s))) = rw e in
      let z : i + 1 - at ≡ i - at + 1 = omega (arith, p.start) in
      let w : value_from v (digits_from (drop i s)) ≡ value_from (v * 10 + (get_or s i 0 - 48)) (digits_from (drop (i + 1) s)) = rw e in
      record {
        start = omega (arith, p.start);
        bound = rw z (power_next (i - at) v (get_or s i 0 - 48) p.bound (omega arith));
        worth = sym w ∙ p.worth;
        place = omega (arith, p.place);
      }

-- digits with a quote behind them
pub digits_text : (t more : List ℕ) → all_digits t ≡ true → digits_from (t ++ (quote ∷ more)) ≡ t
unfolding digits_from all_digits
digits_text [] more e = rw (digit_low quote (omega arith))
digits_text (b ∷ t) more e = rw (both_left (is_digit b) (all_digits t) e, digits_text t more (both_right (is_digit b) (all_digits t) e))
