-- The bytes of one text: digits, or what a text goes on with. Both are permitted.
use mathlib.Core.Path.{◌≡◌, refl}
use mathlib.Core.Bool.{Bool, true, false}
use mathlib.Core.List.{List, [], ◌∷◌}
use Prim.Native.Nat.{ℕ, zero, suc, ◌+◌, ◌-◌, ◌≤◌, ◌<◌}
use native.Mathlib.Numerals.{add-one}
use native.Mathlib.Omega.{arith}
use lib.Dec.{eqb, leb}
use lib.ListN.{length, get_or, take, drop, drop_of_length-le, length-drop}
use lib.Seq.{drop-cons, length-take-le}
use borrow.Author.Tests.{eqb-true, le-leb, ne_eqb}
use Rattle.laws.specs.Tests.{one_of, either, never, both_left, both_right, both_true}
use Rattle.file.specs.Bytes.{quote, starts, ends, goes, goes_on, undefined, permitted_byte, permitted_text}
use Rattle.file.specs.Format.{Text}
use Rattle.file.specs.Reader.{Reached}
use Rattle.file.proofs.StepLaws.{goes_on_lem}
use Rattle.file.proofs.TextLaws.{ends_other}
use Rattle.field.specs.Kinds.{admits}
use Rattle.field.specs.Values.{is_empty, is_byte, among, is_digit, sized, all_digits, is_time}
use Rattle.field.specs.declared.Kind.{Kind}
use Rattle.field.proofs.ValueLaws.{digit_low, digit_high, digit_is, digit_bounds, time_digits}
use Rattle.extent.specs.Extent.{digit_run, between, TextTo}

-- a text is permitted as far as it goes
ends_part : (b : ℕ) (l : List ℕ) (i : ℕ) → ends (b ∷ l) ≡ false → ends (b ∷ take i l) ≡ false
unfolding ends
ends_part b [] zero h = refl
ends_part b [] (suc i) h = refl
ends_part b (c ∷ l) zero h = refl
ends_part b (c ∷ l) (suc i) h = h

permitted_part : (l : List ℕ) → permitted_text (take (goes l) l) ≡ true
unfolding permitted_text goes goes_on
permitted_part [] = refl
permitted_part (b ∷ l) =
    either (goes_on (b ∷ l))
    (λ h.
    let g = goes_on_lem b l h in
    rw h (rw (g.0, ends_part b l (goes l) g.1) (permitted_part l)))
    (λ h. rw h refl)

-- digits at a place of a file
module _ (s : List ℕ) (i : ℕ) (h : i < length s) where
  pub run_low : get_or s i 0 < 48 → digit_run (drop i s) ≡ 0
  unfolding digit_run
  run_low l = rw (drop-cons s i 0, digit_low (get_or s i 0) l)

  pub run_high : 57 < get_or s i 0 → digit_run (drop i s) ≡ 0
  unfolding digit_run
  run_high l = rw (drop-cons s i 0, digit_high (get_or s i 0) l)

  pub run_next : 48 ≤ get_or s i 0 → get_or s i 0 ≤ 57 → digit_run (drop i s) ≡ suc (digit_run (drop (i + 1) s))
  unfolding digit_run
  run_next l m = rw (add-one, drop-cons s i 0, digit_is (get_or s i 0) l m)

pub run_end : (s : List ℕ) (i : ℕ) → length s ≤ i → digit_run (drop i s) ≡ 0
unfolding digit_run
run_end s i h = rw (drop_of_length-le s h)

run_digits : (l : List ℕ) → all_digits (take (digit_run l) l) ≡ true
unfolding all_digits digit_run
run_digits [] = refl
run_digits (b ∷ l) = either (is_digit b) (λ h. rw h (rw h (run_digits l))) (λ h. rw h refl)

run_within : (l : List ℕ) → digit_run l ≤ length l
unfolding digit_run
run_within [] = omega arith
run_within (b ∷ l) = either (is_digit b) (λ h. rw h (omega (arith, run_within l))) (λ h. rw h (omega arith))

-- a digit is a permitted byte and no quote
digit_permitted : (b : ℕ) → 48 ≤ b → b ≤ 57 → permitted_byte b ≡ true
unfolding permitted_byte undefined
digit_permitted b l m =
    let p : 32 ≤ b = omega arith in
    let q : b ≤ 126 = omega arith in
    rw (le-leb 32 b p, le-leb b 126 q, ne_eqb b 0x81 (λ e. omega arith), ne_eqb b 0x83 (λ e. omega arith), ne_eqb b 0x88 (λ e. omega arith), ne_eqb b 0x90 (λ e. omega arith), ne_eqb b 0x98 (λ e. omega arith))

digits_permitted : (t : Text) → all_digits t ≡ true → permitted_text t ≡ true
unfolding all_digits permitted_text goes_on
digits_permitted [] h = refl
digits_permitted (b ∷ t) h =
    let d = both_left (is_digit b) (all_digits t) h in
    let l = digit_bounds b d in
    let e = ends_other b t (λ (q : b ≡ quote). omega arith) in
    rw (digit_permitted b l.0 l.1, e) (digits_permitted t (both_right (is_digit b) (all_digits t) h))

-- a number that was read
module _ (s : List ℕ) (at end : ℕ) (r : Reached s at (digit_run (drop at s)) end) where
  run_size : end - at ≡ digit_run (drop at s)
  run_size = omega (arith, r.place)

  size_is : length (between s at end) ≡ end - at
  size_is = length-take-le (end - at) (drop at s) (rw run_size (run_within (drop at s)))

  pub number_to : (a b : ℕ) → a ≤ end - at → end - at ≤ b → TextTo (Kind.Digits a b) s at end
  unfolding admits
  number_to a b l m =
      let d : all_digits (between s at end) ≡ true = rw run_size (run_digits (drop at s)) in
      let z : sized a b (between s at end) ≡ true = rw size_is (both_true (leb a (end - at)) (leb (end - at) b) (le-leb a (end - at) l) (le-leb (end - at) b m)) in
      record {
        order = omega (arith, r.place);
        near = r.near;
        fits = digits_permitted (between s at end) d;
        is = both_true (sized a b (between s at end)) (all_digits (between s at end)) z d;
      }

pub maybe_number : (a b : ℕ) (s : List ℕ) (at end : ℕ) → TextTo (Kind.Digits a b) s at end → TextTo (Kind.MaybeDigits a b) s at end
unfolding admits
maybe_number a b s at end t =
    record { order = t.order; near = t.near; fits = t.fits; is = either (eqb (length (between s at end)) 0) (λ h. rw h refl) (λ h. rw h t.is) }

-- no text at all
pub no_text : (kind : Kind) (s : List ℕ) (at : ℕ) → admits kind [] ≡ true → at ≤ length s → TextTo kind s at at
unfolding permitted_text
no_text kind s at e h =
    let z : at - at ≡ 0 = omega arith in
    record { order = omega arith; near = h; fits = rw z refl; is = rw z e }

pub no_number : (a b : ℕ) → admits (Kind.MaybeDigits a b) [] ≡ true
unfolding admits
no_number a b = refl

pub no_time : admits Kind.Time [] ≡ true
unfolding admits
no_time = refl

-- a text that was read, and tried
pub text_to : (kind : Kind) (s : List ℕ) (at end : ℕ) → Reached s at (goes (drop at s)) end → admits kind (between s at end) ≡ true → TextTo kind s at end
text_to kind s at end r a =
    let z : end - at ≡ goes (drop at s) = omega (arith, r.place) in
    record { order = omega (arith, r.place); near = r.near; fits = rw z (permitted_part (drop at s)); is = a }

-- or measured
pub sized_to : (a b : ℕ) (s : List ℕ) (at end : ℕ) → Reached s at (goes (drop at s)) end → a ≤ end - at → end - at ≤ b → TextTo (Kind.Text a b) s at end
unfolding admits
sized_to a b s at end r l m =
    let w : end - at ≤ length (drop at s) = simp length-drop (omega (arith, r.place, r.near)) in
    let z : length (between s at end) ≡ end - at = length-take-le (end - at) (drop at s) w in
    text_to (Kind.Text a b) s at end r (rw z (both_true (leb a (end - at)) (leb (end - at) b) (le-leb a (end - at) l) (le-leb (end - at) b m)))

-- a time
last_of : (a b : Bool) → one_of a (one_of b true) ≡ true
last_of true b = refl
last_of false true = refl
last_of false false = refl

pub time_to : (s : List ℕ) (at end : ℕ) → is_time (between s at end) ≡ true → at ≤ end → end ≤ length s → TextTo Kind.Time s at end
unfolding admits
time_to s at end e l m =
    let t = between s at end in
    record { order = l; near = m; fits = digits_permitted t (time_digits t e).digits; is = rw e (last_of (is_empty t) (among (124 ∷ 60 ∷ []) t)) }

-- a byte that stands at a place is the first from there on
pub starts_cons : (b : ℕ) (l : List ℕ) → starts b l ≡ true → l ≡ b ∷ drop 1 l
unfolding starts
starts_cons b [] h = never h
starts_cons b (x ∷ l) h = rw (eqb-true x b h)

-- one byte in place of a time
byte_to : (b : ℕ) (s : List ℕ) (at : ℕ) → permitted_text (b ∷ []) ≡ true → admits Kind.Time (b ∷ []) ≡ true → starts b (drop at s) ≡ true → at < length s → TextTo Kind.Time s at (at + 1)
byte_to b s at p q h l =
    let z : at + 1 - at ≡ 1 = omega arith in
    let e : between s at (at + 1) ≡ b ∷ [] = rw (z, starts_cons b (drop at s) h) in
    record { order = omega arith; near = omega arith; fits = rw e p; is = rw e q }

pub passed_to : (s : List ℕ) (at : ℕ) → starts 124 (drop at s) ≡ true → at < length s → TextTo Kind.Time s at (at + 1)
unfolding permitted_text goes_on ends permitted_byte undefined admits among is_byte
passed_to s at h l = byte_to 124 s at refl refl h l

pub aside_to : (s : List ℕ) (at : ℕ) → starts 60 (drop at s) ≡ true → at < length s → TextTo Kind.Time s at (at + 1)
unfolding permitted_text goes_on ends permitted_byte undefined admits among is_byte
aside_to s at h l = byte_to 60 s at refl refl h l
