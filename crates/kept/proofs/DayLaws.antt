-- Refusal 10 as the definition over lists says it is the quantified statement over their members.
use mathlib.Core.Path.{◌≡◌, refl, sym, ap, ◌∙◌}
use mathlib.Core.Bool.{Bool, true, false}
use mathlib.Core.List.{List, []}
use mathlib.Core.Logic.{◌⊎◌, inl, inr}
use Prim.Native.Nat.{ℕ, zero, suc, ◌+◌, ◌≤◌, ◌<◌}
use native.Mathlib.Omega.{arith}
use lib.Dec.{eqb, ltb}
use lib.ListN.{get_or}
use borrow.Author.Tests.{eqb-true, eqb-false, ltb-true, ltb-false, not-true}
use Rattle.laws.specs.Tests.{both, one_of, either, clash, both_left, both_right, both_true}
use Rattle.file.specs.Format.{Fields}
use Rattle.signs.specs.Signs.{is_day_sign}
use Rattle.field.specs.Names.{mark}
use Rattle.keys.specs.Keys.{same}
use Rattle.link.proofs.HasLaws.{one_left, one_right, one_cases, same_equal, equal_same}
use Rattle.trail.specs.Lists.{some}
use Rattle.trip.specs.Days.{
  type_of,
  has_type,
  two_marks,
  two_weeks,
  one_with_weeks,
  beside_three,
  has_day_sign,
  three_with_other,
  days_fit,
}
use Rattle.trip.proofs.DayLaws.{type_at, at_type, two_marks_at, at_two_marks}
use Rattle.kept.specs.Trips.{DaysKept}
use Rattle.kept.proofs.Members.{In, some_in, in_some}

-- TESTS.
-- one that can't hold fails
pub fails : (t : Bool) → (t ≡ true → ⊥) → t ≡ false
fails true f = absurd (f refl)
fails false f = refl

-- where neither of two holds, the first doesn't
none_left : (a b : Bool) → one_of a b ≡ false → a ≡ false
none_left a b e = fails a (λ p. clash (one_left a b p) e)

-- nor does the second
none_right : (a b : Bool) → one_of a b ≡ false → b ≡ false
none_right a b e = fails b (λ p. clash (one_right a b p) e)

-- A test of numbers.
module _ (h : ℕ → Bool) where
  -- it holds for one of the n + 1 numbers from a on
  abbrev one_up : ℕ → ℕ → Bool
  one_up a zero = h a
  one_up a (suc n) = one_of (h a) (one_up (suc a) n)

  -- for two of the n + 2 numbers from a on
  abbrev two_up : ℕ → ℕ → Bool
  two_up a zero = both (h a) (h (suc a))
  two_up a (suc n) = one_of (both (h a) (one_up (suc a) (suc n))) (two_up (suc a) n)

  -- which one
  up_at : (a n : ℕ) → one_up a n ≡ true → (t : ℕ) × (a ≤ t) × (t ≤ a + n) × (h t ≡ true)
  up_at a zero e = (a, omega arith, omega arith, e)
  up_at a (suc n) e = go (one_cases (h a) (one_up (suc a) n) e) (up_at (suc a) n)
    where
      go : (h a ≡ true) ⊎ (one_up (suc a) n ≡ true) → (one_up (suc a) n ≡ true → (t : ℕ) × (suc a ≤ t) × (t ≤ suc a + n) × (h t ≡ true))
          → (t : ℕ) × (a ≤ t) × (t ≤ a + suc n) × (h t ≡ true)
      go (inl p) f = (a, omega arith, omega arith, p)
      go (inr p) f = let k = f p in (k.0, omega (arith, k.1), omega (arith, k.2), k.3)

  at_up : (a n t : ℕ) → a ≤ t → t ≤ a + n → h t ≡ true → one_up a n ≡ true
  at_up a zero t l g e = let z : t ≡ a = omega arith in ap h (sym z) ∙ e
  at_up a (suc n) t l g e =
      either (eqb t a)
      (λ p. one_left (h a) (one_up (suc a) n) (ap h (sym (eqb-true t a p)) ∙ e))
      (λ p.
      let ne = eqb-false t a p in
      one_right (h a) (one_up (suc a) n) (at_up (suc a) n t (omega arith) (omega arith) e))

  -- which two
  two_at : (a n : ℕ) → two_up a n ≡ true → (s : ℕ) × (t : ℕ) × (a ≤ s) × (s < t) × (t ≤ suc (a + n)) × (h s ≡ true) × (h t ≡ true)
  two_at a zero e = (a, suc a, omega arith, omega arith, omega arith, both_left (h a) (h (suc a)) e, both_right (h a) (h (suc a)) e)
  two_at a (suc n) e = go (one_cases (both (h a) (one_up (suc a) (suc n))) (two_up (suc a) n) e) (two_at (suc a) n)
    where
      go : (both (h a) (one_up (suc a) (suc n)) ≡ true) ⊎ (two_up (suc a) n ≡ true)
          → (two_up (suc a) n ≡ true → (s : ℕ) × (t : ℕ) × (suc a ≤ s) × (s < t) × (t ≤ suc (suc a + n)) × (h s ≡ true) × (h t ≡ true))
          → (s : ℕ) × (t : ℕ) × (a ≤ s) × (s < t) × (t ≤ suc (a + suc n)) × (h s ≡ true) × (h t ≡ true)
      go (inl p) f =
          let k = up_at (suc a) (suc n) (both_right (h a) (one_up (suc a) (suc n)) p) in
          (a, k.0, omega arith, omega (arith, k.1), omega (arith, k.2), both_left (h a) (one_up (suc a) (suc n)) p, k.3)
      go (inr p) f = let k = f p in (k.0, k.1, omega (arith, k.2), k.3, omega (arith, k.4), k.5, k.6)

  at_two : (a n s t : ℕ) → a ≤ s → s < t → t ≤ suc (a + n) → h s ≡ true → h t ≡ true → two_up a n ≡ true
  at_two a zero s t l m g p q =
      let y : s ≡ a = omega arith in
      let z : t ≡ suc a = omega arith in
      both_true (h a) (h (suc a)) (ap h (sym y) ∙ p) (ap h (sym z) ∙ q)
  at_two a (suc n) s t l m g p q =
      either (eqb s a)
      (λ u.
      let e = eqb-true s a u in
      one_left (both (h a) (one_up (suc a) (suc n))) (two_up (suc a) n)
      (both_true (h a) (one_up (suc a) (suc n)) (ap h (sym e) ∙ p) (at_up (suc a) (suc n) t (omega arith) (omega arith) q)))
      (λ u.
      let ne = eqb-false s a u in
      one_right (both (h a) (one_up (suc a) (suc n))) (two_up (suc a) n)
      (at_two (suc a) n s t (omega arith) m (omega arith) p q))

-- MEMBERS.
-- a type that is there is that of a member
type_in : (t : ℕ) (codes : List Fields) → has_type t codes ≡ true → (p : Fields) × In [] codes p × (type_of p ≡ t)
type_in t codes e = let k = type_at t codes e in (get_or codes k.0 [], (k.0, k.1, refl), k.2)

-- and that of a member is there
in_type : (codes : List Fields) (p : Fields) → In [] codes p → has_type (type_of p) codes ≡ true
in_type codes p (i, l, e) = at_type (type_of p) codes i l (ap type_of e)

-- two members with a type that bear different marks
in_marks : (codes : List Fields) (p q : Fields) → In [] codes p → In [] codes q → 1 ≤ type_of p → 1 ≤ type_of q → (mark p ≡ mark q → ⊥)
    → two_marks codes ≡ true
in_marks codes p q (i, k, d) (j, l, e) s t n =
    let x : type_of (get_or codes i []) ≡ type_of p = ap type_of d in
    let y : type_of (get_or codes j []) ≡ type_of q = ap type_of e in
    let u : mark (get_or codes i []) ≡ mark p = ap (λ (r : Fields). mark r) d in
    let v : mark (get_or codes j []) ≡ mark q = ap (λ (r : Fields). mark r) e in
    at_two_marks codes i j
    (record {
      one_in = k;
      other_in = l;
      one_typed = λ z. omega arith;
      other_typed = λ z. omega arith;
      differ = λ z. n (sym u ∙ z ∙ v);
    })

module _ (signs : List ℕ) (codes : List Fields) where
  -- the types that are there
  abbrev there : ℕ → Bool
  there t = has_type t codes

  -- THE TEST SAYS IT.
  -- one that fits isn't refused for any of the four
  record Fit : Type 0 where
    marks : two_marks codes ≡ false
    weeks : two_weeks codes ≡ false
    ones : one_with_weeks codes ≡ false
    threes : three_with_other signs codes ≡ false

  fit_each : days_fit signs codes ≡ true → Fit
  unfolding days_fit
  fit_each e =
      let a = two_marks codes in
      let b = two_weeks codes in
      let c = one_with_weeks codes in
      let d = three_with_other signs codes in
      let x = not-true (one_of a (one_of b (one_of c d))) e in
      let y = none_right a (one_of b (one_of c d)) x in
      let z = none_right b (one_of c d) y in
      record { marks = none_left a (one_of b (one_of c d)) x; weeks = none_left b (one_of c d) y; ones = none_left c d z; threes = none_right c d z }

  each_fit : Fit → days_fit signs codes ≡ true
  unfolding days_fit
  each_fit f = rw (f.marks, f.weeks, f.ones, f.threes)

  -- two members of different types out of 5 to 8
  in_weeks : (p q : Fields) → In [] codes p → In [] codes q → 5 ≤ type_of p → type_of p < type_of q → type_of q ≤ 8 → two_weeks codes ≡ true
  unfolding two_weeks
  in_weeks p q m n l g k = at_two there 5 2 (type_of p) (type_of q) l g k (in_type codes p m) (in_type codes q n)

  -- one of type 1 and one of type 7 or 8
  in_ones : (p q : Fields) → In [] codes p → In [] codes q → type_of p ≡ 1 → 7 ≤ type_of q → type_of q ≤ 8 → one_with_weeks codes ≡ true
  unfolding one_with_weeks
  in_ones p q m n e l g =
      both_true (there 1) (one_up there 7 1) (ap there (sym e) ∙ in_type codes p m) (at_up there 7 1 (type_of q) l g (in_type codes q n))

  -- a type from 1 to 8 other than 3
  at_beside : (t : ℕ) → 1 ≤ t → t ≤ 8 → (t ≡ 3 → ⊥) → there t ≡ true → beside_three codes ≡ true
  unfolding beside_three
  at_beside t l g n h =
      let rest = one_up there 4 4 in
      either (eqb t 1)
      (λ u. one_left (there 1) (one_of (there 2) rest) (ap there (sym (eqb-true t 1 u)) ∙ h))
      (λ u.
      one_right (there 1) (one_of (there 2) rest)
      (either (eqb t 2)
      (λ v. one_left (there 2) rest (ap there (sym (eqb-true t 2 v)) ∙ h))
      (λ v. one_right (there 2) rest (at_up there 4 4 t (omega (arith, eqb-false t 1 u, eqb-false t 2 v)) (omega arith) h))))

  beside_at : beside_three codes ≡ true → (t : ℕ) × (1 ≤ t) × (t ≤ 8) × (t ≡ 3 → ⊥) × (there t ≡ true)
  unfolding beside_three
  beside_at e =
      let rest = one_up there 4 4 in
      either (there 1)
      (λ p. (1, omega arith, omega arith, (λ z. omega arith), p))
      (λ p.
      either (there 2)
      (λ q. (2, omega arith, omega arith, (λ z. omega arith), q))
      (λ q.
      let r : rest ≡ true = rw (p, q) at e in
      let k = up_at there 4 4 r in
      (k.0, omega (arith, k.1), omega (arith, k.2), (λ z. omega (arith, k.1)), k.3)))

  -- one of type 3 and one of another type
  in_beside : (p q : Fields) → In [] codes p → In [] codes q → type_of p ≡ 3 → 1 ≤ type_of q → type_of q ≤ 8 → (type_of q ≡ 3 → ⊥)
      → three_with_other signs codes ≡ true
  unfolding three_with_other
  in_beside p q m n e l g z =
      both_true (there 3) (one_of (beside_three codes) (has_day_sign signs)) (ap there (sym e) ∙ in_type codes p m)
      (one_left (beside_three codes) (has_day_sign signs) (at_beside (type_of q) l g z (in_type codes q n)))

  -- or a day sign
  in_signs : (p : Fields) (x : ℕ) → In [] codes p → In 0 signs x → type_of p ≡ 3 → is_day_sign x ≡ true → three_with_other signs codes ≡ true
  unfolding three_with_other has_day_sign
  in_signs p x m n e t =
      both_true (there 3) (one_of (beside_three codes) (has_day_sign signs)) (ap there (sym e) ∙ in_type codes p m)
      (one_right (beside_three codes) (has_day_sign signs) (in_some 0 is_day_sign x signs n t))

  -- so it keeps the rules
  fit_kept : Fit → DaysKept (λ p. In [] codes p) (λ x. In 0 signs x)
  fit_kept f =
      record {
        one_mark =
            λ p q m n s t.
            either (same (mark p) (mark q))
            (λ u. same_equal (mark p) (mark q) u)
            (λ u. clash (in_marks codes p q m n s t (λ z. clash (equal_same (mark p) (mark q) z) u)) f.marks);
        one_week =
            λ p q m n k l s t.
            either (ltb (type_of p) (type_of q))
            (λ u. clash (in_weeks p q m n k (ltb-true (type_of p) (type_of q) u) t) f.weeks)
            (λ u.
            either (ltb (type_of q) (type_of p))
            (λ v. clash (in_weeks q p n m s (ltb-true (type_of q) (type_of p) v) l) f.weeks)
            (λ v. omega (arith, ltb-false (type_of p) (type_of q) u, ltb-false (type_of q) (type_of p) v)));
        one_no_week = λ p q m n e w. clash (in_ones p q m n e (low (type_of q) w) (high (type_of q) w)) f.ones;
        three_alone =
            λ p q m n e s t.
            either (eqb (type_of q) 3)
            (λ u. eqb-true (type_of q) 3 u)
            (λ u. clash (in_beside p q m n e s t (eqb-false (type_of q) 3 u)) f.threes);
        three_no_sign = λ p x m n e. fails (is_day_sign x) (λ t. clash (in_signs p x m n e t) f.threes);
      }
    where
      low : (t : ℕ) → (t ≡ 7) ⊎ (t ≡ 8) → 7 ≤ t
      low t (inl e) = omega arith
      low t (inr e) = omega arith

      high : (t : ℕ) → (t ≡ 7) ⊎ (t ≡ 8) → t ≤ 8
      high t (inl e) = omega arith
      high t (inr e) = omega arith

  -- THE RULES MAKE THE TEST HOLD.
  module _ (k : DaysKept (λ p. In [] codes p) (λ x. In 0 signs x)) where
    -- none of the four refuses it
    no_marks : two_marks codes ≡ true → ⊥
    no_marks e =
        let d = two_marks_at codes e in
        let i = d.0 in
        let j = d.1 in
        let w = d.2 in
        let s = w.one_typed in
        let t = w.other_typed in
        w.differ (k.one_mark (get_or codes i []) (get_or codes j []) (i, w.one_in, refl) (j, w.other_in, refl) (omega arith) (omega arith))

    no_weeks : two_weeks codes ≡ true → ⊥
    unfolding two_weeks
    no_weeks e =
        let w = two_at there 5 2 e in
        let p = type_in w.0 codes w.5 in
        let q = type_in w.1 codes w.6 in
        let z = k.one_week p.0 q.0 p.1 q.1 (omega (arith, w.2, p.2)) (omega (arith, w.3, w.4, p.2)) (omega (arith, w.2, w.3, q.2)) (omega (arith, w.4, q.2)) in
        omega (arith, z, p.2, q.2, w.3)

    no_ones : one_with_weeks codes ≡ true → ⊥
    unfolding one_with_weeks
    no_ones e =
        let w = up_at there 7 1 (both_right (there 1) (one_up there 7 1) e) in
        let p = type_in 1 codes (both_left (there 1) (one_up there 7 1) e) in
        let q = type_in w.0 codes w.3 in
        k.one_no_week p.0 q.0 p.1 q.1 p.2 (seven (type_of q.0) (omega (arith, w.1, q.2)) (omega (arith, w.2, q.2)))
      where
        seven : (t : ℕ) → 7 ≤ t → t ≤ 8 → (t ≡ 7) ⊎ (t ≡ 8)
        seven t l g = either (eqb t 7) (λ u. inl (eqb-true t 7 u)) (λ u. inr (omega (arith, eqb-false t 7 u)))

    no_threes : three_with_other signs codes ≡ true → ⊥
    unfolding three_with_other has_day_sign
    no_threes e =
        let other = one_of (beside_three codes) (has_day_sign signs) in
        go (type_in 3 codes (both_left (there 3) other e)) (one_cases (beside_three codes) (has_day_sign signs) (both_right (there 3) other e))
      where
        go : (p : Fields) × In [] codes p × (type_of p ≡ 3) → (beside_three codes ≡ true) ⊎ (some is_day_sign signs ≡ true) → ⊥
        go (p, m, t) (inl b) =
            let w = beside_at b in
            let q = type_in w.0 codes w.4 in
            w.3 (sym q.2 ∙ k.three_alone p q.0 m q.1 t (omega (arith, w.1, q.2)) (omega (arith, w.2, q.2)))
        go (p, m, t) (inr s) =
            let w = some_in 0 is_day_sign signs s in
            clash w.2 (k.three_no_sign p w.0 m w.1 t)

    kept_fit : Fit
    kept_fit =
        record {
          marks = fails (two_marks codes) no_marks;
          weeks = fails (two_weeks codes) no_weeks;
          ones = fails (one_with_weeks codes) no_ones;
          threes = fails (three_with_other signs codes) no_threes;
        }

-- a trip that fits keeps document 01's rules
pub days_kept : (signs : List ℕ) (codes : List Fields) → days_fit signs codes ≡ true → DaysKept (λ p. In [] codes p) (λ x. In 0 signs x)
days_kept signs codes e = fit_kept signs codes (fit_each signs codes e)

-- and one that keeps them fits
pub kept_days : (signs : List ℕ) (codes : List Fields) → DaysKept (λ p. In [] codes p) (λ x. In 0 signs x) → days_fit signs codes ≡ true
kept_days signs codes k = each_fit signs codes (kept_fit signs codes k)
