-- The signs of a trip's codes one after another: whether one of those that are left passes a test.
use mathlib.Core.Path.{◌≡◌, refl, sym, ap, ◌∙◌}
use mathlib.Core.Bool.{Bool, true, false, not}
use mathlib.Core.List.{List, []}
use Prim.Native.Nat.{ℕ, suc, ◌+◌, ◌-◌, ◌≤◌, ◌<◌}
use native.Mathlib.Omega.{arith}
use lib.Dec.{T, ltb}
use borrow.Author.Tests.{ne_eqb, le-ltb}
use Rattle.laws.specs.Tests.{pick, one_of, either}
use Rattle.laws.specs.Below.{below}
use Rattle.weeks.specs.Weeks.{weekday}
use Rattle.signs.specs.Signs.{is_day_sign, sign_fits}
use Rattle.file.specs.Files.{fields_of, field_counts}
use Rattle.file.specs.Format.{Fields}
use Rattle.field.specs.Kinds as kind
use Rattle.field.specs.Kinds.{kinds, kind_of}
use Rattle.field.specs.Names.{field}
use Rattle.field.specs.Values.{is_empty, value}
use Rattle.link.specs.Numeric.{code_kind, CodeAt}
use Rattle.trail.specs.Lists.{some}
use Rattle.trip.specs.Days.{has_day_sign, signs_allow}
use Rattle.trip.specs.View.{signs_from}

is_true : (b : Bool) → T b → b ≡ true
is_true true t = refl
is_true false t = absurd t

-- fields 3 to 12 of Spoje are codes
codes_there : (i : ℕ) → i < 12 → T (one_of (ltb i 2) (code_kind (kind_of 6 (i + 1))))
unfolding code_kind kind_of kinds kind.spoje
codes_there i h = below 12 (λ (k : ℕ). one_of (ltb k 2) (code_kind (kind_of 6 (k + 1)))) tt i h

pub trip_code : (i : ℕ) → 2 ≤ i → i < 12 → CodeAt 6 (i + 1)
unfolding fields_of field_counts
trip_code i l h =
    let e : one_of (ltb i 2) (code_kind (kind_of 6 (i + 1))) ≡ true = is_true _ (codes_there i h) in
    (rw (le-ltb i 2 l) at e, omega arith, omega arith)

-- the sign of the code in field f; 0 if it is empty
abbrev pub sign_at : (ℕ → ℕ) → Fields → ℕ → ℕ
sign_at sign r f = pick (is_empty (field f r)) 0 (sign (value (field f r)))

-- one of the signs from text i on passes a test
abbrev pub signs_left : (ℕ → Bool) → (ℕ → ℕ) → Fields → ℕ → Bool
signs_left test sign r i = some test (signs_from sign (i + 1) (12 - i) r)

-- 0, which stands for no sign, doesn't pass it
module _ (test : ℕ → Bool) (z : test 0 ≡ false) (sign : ℕ → ℕ) (r : Fields) where
  some_sign : (f n : ℕ) → some test (signs_from sign f (suc n) r) ≡ one_of (test (sign_at sign r f)) (some test (signs_from sign (f + 1) n r))
  unfolding some signs_from
  some_sign f n = either (is_empty (field f r)) (λ t. rw (t, z)) (λ t. rw t)

  module _ (i : ℕ) (h : i < 12) (x : ℕ) (e : x ≡ sign_at sign r (i + 1)) where
    sign_next : signs_left test sign r i ≡ one_of (test x) (signs_left test sign r (i + 1))
    sign_next =
        let n : 12 - i ≡ suc (12 - (i + 1)) = omega arith in
        ap (λ (k : ℕ). some test (signs_from sign (i + 1) k r)) n
        ∙ some_sign (i + 1) (12 - (i + 1))
        ∙ ap (λ (k : ℕ). one_of (test k) (signs_left test sign r (i + 1))) (sym e)

    pub sign_here : test x ≡ true → signs_left test sign r i ≡ true
    sign_here t = sign_next ∙ ap (λ (b : Bool). one_of b (signs_left test sign r (i + 1))) t

    pub sign_past : test x ≡ false → signs_left test sign r i ≡ signs_left test sign r (i + 1)
    sign_past t = sign_next ∙ ap (λ (b : Bool). one_of b (signs_left test sign r (i + 1))) t

  pub sign_end : (i : ℕ) → 12 ≤ i → signs_left test sign r i ≡ false
  unfolding some signs_from
  sign_end i h = let n : 12 - i ≡ 0 = omega arith in rw n

-- 0 is no day sign, and fits no day
pub zero_no_sign : is_day_sign 0 ≡ false
unfolding is_day_sign
zero_no_sign = refl

pub zero_fits_none : (d : ℕ) (holidays : List ℕ) → sign_fits 0 d holidays ≡ false
unfolding sign_fits
zero_fits_none d holidays = ne_eqb 0 (48 + weekday d) (λ z. omega arith)

-- a sign fits day d, or none does
module _ (signs : List ℕ) (d : ℕ) (holidays : List ℕ) where
  pub signs_one : some (λ x. sign_fits x d holidays) signs ≡ true → true ≡ signs_allow signs d holidays
  unfolding signs_allow
  signs_one e = either (has_day_sign signs) (λ t. rw (e, t)) (λ t. rw (e, t))

  pub signs_none : some (λ x. sign_fits x d holidays) signs ≡ false → (h : Bool) → h ≡ has_day_sign signs → not h ≡ signs_allow signs d holidays
  unfolding signs_allow
  signs_none e h a = either (has_day_sign signs) (λ t. rw (e, a, t)) (λ t. rw (e, a, t))

-- no sign at all is none
pub no_day_sign : false ≡ has_day_sign []
unfolding has_day_sign some
no_day_sign = refl
