-- Refusal 10 over a batch: a trip's signs and time codes in its line's view fit exactly if the records of the batch keep document 01's rules.
use Rattle.std.specs.Prelude.{None, Option, Some}
use mathlib.Core.Path.{◌≡◌, refl, sym, ap, ◌∙◌}
use mathlib.Core.Bool.{true, false}
use mathlib.Core.List.{List, [], ◌∷◌, ◌++◌}
use mathlib.Core.Logic.{◌↔◌, ◌⊎◌, inl, inr}
use Prim.Native.Nat.{ℕ, zero, suc, ◌+◌, ◌≤◌, ◌<◌}
use native.Mathlib.Omega.{arith}
use lib.Dec.{eqb}
use lib.ListN.{length, take, drop}
use lib.Seq.{split_at}
use borrow.Author.Tests.{eqb-true, eqb-false, eq-eqb, ne_eqb}
use Rattle.laws.specs.Tests.{both, either, both_left, both_right, both_true}
use Rattle.file.specs.Format.{Fields}
use Rattle.signs.specs.Signs.{is_day_sign}
use Rattle.field.specs.Values.{is_empty}
use Rattle.field.specs.Names.{field}
use Rattle.keys.specs.Keys.{first_with, of_trip, third}
use Rattle.keys.proofs.KeyLaws.{has_found}
use Rattle.thirteen.specs.Batch.{Batch, records_of}
use Rattle.link.specs.Signs.{sign_of}
use Rattle.link.specs.Met.{Stands, Distinct, number, Sign}
use Rattle.link.proofs.TableLaws.{has_reaches}
use Rattle.link.proofs.SignLaws.{reached_sign, sign_only}
use Rattle.amiss.proofs.RecordLaws.{sign_none}
use Rattle.trail.specs.Lists.{select, rising}
use Rattle.trail.specs.Trail.{upward}
use Rattle.trail.proofs.TrailLaws.{once_distinct}
use Rattle.trip.specs.Days.{type_of, days_fit}
use Rattle.trip.specs.View.{WithSigns, signs_from, trip_signs, view_of, trip_of, codes_of}
use Rattle.trip.proofs.ViewLaws.{code_fields, view_codes, view_trip}
use Rattle.kept.specs.Trips.{DaysKept}
use Rattle.kept.specs.Own.{OfTrip, TimeCode, TripSign}
use Rattle.kept.proofs.Members.{In, in_nil, in_cons, in_later, cons_in, in_select, select_in, select_test, in_rising, rising_in}
use Rattle.kept.proofs.DayLaws.{days_kept, kept_days}

-- The rules for time codes and signs hold for a part of them, and signs that are no day signs may be added.
along : {Code Fewer : Fields → Type 0} {Seen Less : ℕ → Type 0} → ((p : Fields) → Fewer p → Code p) → ((x : ℕ) → Less x → Seen x ⊎ (is_day_sign x ≡ false))
    → DaysKept Code Seen → DaysKept Fewer Less
along {Code} {Fewer} {Seen} {Less} f g k =
    record {
      one_mark = λ p q m n s t. k.one_mark p q (f p m) (f q n) s t;
      one_week = λ p q m n s t u v. k.one_week p q (f p m) (f q n) s t u v;
      one_no_week = λ p q m n s t. k.one_no_week p q (f p m) (f q n) s t;
      three_alone = λ p q m n s t u. k.three_alone p q (f p m) (f q n) s t u;
      three_no_sign = λ p x m n e. go p x (f p m) e (g x n);
    }
  where
    go : (p : Fields) (x : ℕ) → Code p → type_of p ≡ 3 → Seen x ⊎ (is_day_sign x ≡ false) → is_day_sign x ≡ false
    go p x m e (inl s) = k.three_no_sign p x m s e
    go p x m e (inr z) = z

-- THE RECORDS OF A TRIP. Those of a file that have its line and number are those that the test of their keys selects.
module _ (b : Batch) (file : ℕ) (r : Fields)
    (fields : (q : Fields) → both (eqb (number 1 q) (number 1 r)) (eqb (number 2 q) (number 2 r)) ≡ of_trip file (number 1 r) (number 2 r) q) where
  pub own_in : (q : Fields) → OfTrip b file r q → In [] (select (of_trip file (number 1 r) (number 2 r)) (records_of b file)) q
  own_in q (s, l, t) =
      in_select [] (of_trip file (number 1 r) (number 2 r)) q (records_of b file)
      (sym (fields q)
      ∙ both_true (eqb (number 1 q) (number 1 r)) (eqb (number 2 q) (number 2 r)) (eq-eqb (number 1 q) (number 1 r) l) (eq-eqb (number 2 q) (number 2 r) t))
      s

  pub in_own : (q : Fields) → In [] (select (of_trip file (number 1 r) (number 2 r)) (records_of b file)) q → OfTrip b file r q
  in_own q m =
      let test = of_trip file (number 1 r) (number 2 r) in
      let x = eqb (number 1 q) (number 1 r) in
      let y = eqb (number 2 q) (number 2 r) in
      let e = fields q ∙ select_test [] test q (records_of b file) m in (
        select_in [] test q (records_of b file) m,
        eqb-true (number 1 q) (number 1 r) (both_left x y e),
        eqb-true (number 2 q) (number 2 r) (both_right x y e),
      )

module _ (b : Batch) (r : Fields) where
  -- its time codes in the view
  abbrev codes : List Fields
  codes = codes_of (view_of b (number 1 r)) (number 2 r)

  -- are those of the batch
  code_in : (q : Fields) → TimeCode b r q → In [] codes q
  unfolding upward
  code_in q c =
      let own = select (of_trip 10 (number 1 r) (number 2 r)) (records_of b 10) in
      rw (view_codes b (number 1 r) (number 2 r)) (in_rising [] (third 10) q own (own_in b 10 r (code_fields (number 1 r) (number 2 r)) q c))

  in_code : (q : Fields) → In [] codes q → TimeCode b r q
  unfolding upward
  in_code q m =
      let own = select (of_trip 10 (number 1 r) (number 2 r)) (records_of b 10) in
      let n : In [] (rising (third 10) own) q = rw (view_codes b (number 1 r) (number 2 r)) at m in
      in_own b 10 r (code_fields (number 1 r) (number 2 r)) q (rising_in [] (third 10) q own n)

-- THE SIGNS OF A TRIP. Those of some fields' codes are the signs of the codes that are given.
module _ (sign : ℕ → ℕ) (r : Fields) (x : ℕ) where
  -- x is the sign of one of them
  abbrev Given : ℕ → ℕ → Type 0
  Given f n = (g : ℕ) × (f ≤ g) × (g < f + n) × (length (field g r) ≡ 0 → ⊥) × (sign (number g r) ≡ x)

  in_given : (f n : ℕ) → In 0 (signs_from sign f n r) x → Given f n
  unfolding signs_from
  in_given f zero m = in_nil 0 x m
  in_given f (suc n) m =
      either (is_empty (field f r))
      (λ t. later (in_given (f + 1) n (rw t at m)))
      (λ t. go (eqb-false (length (field f r)) 0 t) (cons_in 0 (sign (number f r)) x (signs_from sign (f + 1) n r) (rw t at m)) (in_given (f + 1) n))
    where
      later : Given (f + 1) n → Given f (suc n)
      later (g, l, k, e, s) = (g, omega arith, omega arith, e, s)

      go : (length (field f r) ≡ 0 → ⊥) → (sign (number f r) ≡ x) ⊎ In 0 (signs_from sign (f + 1) n r) x
          → (In 0 (signs_from sign (f + 1) n r) x → Given (f + 1) n) → Given f (suc n)
      go z (inl e) i = (f, omega arith, omega arith, z, e)
      go z (inr h) i = later (i h)

  given_in : (f n g : ℕ) → f ≤ g → g < f + n → (length (field g r) ≡ 0 → ⊥) → sign (number g r) ≡ x → In 0 (signs_from sign f n r) x
  unfolding signs_from
  given_in f zero g l k z e = absurd (omega arith)
  given_in f (suc n) g l k z e =
      either (eqb g f)
      (λ t.
      let y = eqb-true g f t in
      let w : is_empty (field f r) ≡ false = ne_eqb (length (field f r)) 0 (rw y at z) in
      rw w (in_cons 0 (sign (number f r)) x (signs_from sign (f + 1) n r) (inl (rw y at e))))
      (λ t.
      let y = eqb-false g f t in
      let m = given_in (f + 1) n g (omega arith) (omega arith) z e in
      either (is_empty (field f r))
      (λ w. rw w m)
      (λ w. rw w (in_later 0 (sign (number f r)) x (signs_from sign (f + 1) n r) m)))

-- a code number has a sign, or it has 0, which is none
sign_or : (b : Batch) (c : ℕ) → Sign b c (sign_of b c) ⊎ (sign_of b c ≡ 0)
unfolding sign_of
sign_or b c = go (first_with 3 (c ∷ []) 0 (records_of b 3)) refl
  where
    go : (w : Option ℕ) → first_with 3 (c ∷ []) 0 (records_of b 3) ≡ w → Sign b c (sign_of b c) ⊎ (sign_of b c ≡ 0)
    go (Some p) e = inl (reached_sign b c (has_reaches b 3 (c ∷ []) (has_found 3 (c ∷ []) 0 (records_of b 3) p e)))
    go None e = inr (sign_none c 0 (records_of b 3) e)

-- and 0 is no day sign
no_day : (x : ℕ) → x ≡ 0 → is_day_sign x ≡ false
unfolding is_day_sign
no_day x e = rw e

module _ (b : Batch) (r : Fields) where
  -- the signs of the trip's codes
  sign_in_lem : Distinct b 3 → (x : ℕ) → TripSign b r x → In 0 (trip_signs b r) x
  unfolding trip_signs
  sign_in_lem d x (f, l, g, z, s) = given_in (sign_of b) r x 3 10 f l (omega arith) z (sign_only b d (number f r) x s)

  -- are those in its list, where these are day signs
  in_sign : (x : ℕ) → In 0 (trip_signs b r) x → TripSign b r x ⊎ (is_day_sign x ≡ false)
  unfolding trip_signs
  in_sign x m = go (in_given (sign_of b) r x 3 10 m)
    where
      last : (f : ℕ) → 3 ≤ f → f < 13 → (length (field f r) ≡ 0 → ⊥) → sign_of b (number f r) ≡ x
          → Sign b (number f r) (sign_of b (number f r)) ⊎ (sign_of b (number f r) ≡ 0) → TripSign b r x ⊎ (is_day_sign x ≡ false)
      last f l k z e (inl s) = inl (f, l, omega arith, z, rw e at s)
      last f l k z e (inr w) = inr (no_day x (sym e ∙ w))

      go : Given (sign_of b) r x 3 10 → TripSign b r x ⊎ (is_day_sign x ≡ false)
      go (f, l, k, z, e) = last f l k z e (sign_or b (number f r))

  -- the trip in the view has them
  view_signs : Stands b 6 r → Distinct b 6 → (trip_of (view_of b (number 1 r)) (number 2 r)).signs ≡ trip_signs b r
  view_signs (i, h, e) d =
      let rs = records_of b 6 in
      let s : rs ≡ take i rs ++ (r ∷ drop (suc i) rs) = split_at rs i [] h ∙ ap (λ (q : Fields). take i rs ++ (q ∷ drop (suc i) rs)) e in
      ap (λ (p : WithSigns). p.signs) (view_trip b (once_distinct b 6 d) (take i rs) r (drop (suc i) rs) s)

-- REFUSAL 10. The view's trip fits exactly if the batch's records keep the rules.
pub days_exactly : (b : Batch) (r : Fields) → Stands b 6 r → Distinct b 6 → Distinct b 3
    → (days_fit (trip_of (view_of b (number 1 r)) (number 2 r)).signs (codes_of (view_of b (number 1 r)) (number 2 r)) ≡ true)
    ↔ DaysKept (TimeCode b r) (TripSign b r)
days_exactly b r s d c =
    let e = view_signs b r s d in (
      λ t. along (code_in b r) (λ x m. inl (sign_in_lem b r c x m)) (days_kept (trip_signs b r) (codes b r) (rw e at t)),
      λ k. rw e (kept_days (trip_signs b r) (codes b r) (along (in_code b r) (in_sign b r) k)),
    )
