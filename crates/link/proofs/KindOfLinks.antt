-- The fields that a link or a key is made of are numbers, or codes, of the record: one test that is computed over all files and fields, and
-- what it says of a record whose fields are of their kinds.
use mathlib.Core.Path.{◌≡◌, refl, sym}
use mathlib.Core.Bool.{Bool, true, false}
use mathlib.Core.List.{List, [], ◌∷◌}
use mathlib.Core.Logic.{◌⊎◌, inl, inr}
use Prim.Native.Nat.{ℕ, zero, suc, ◌≤◌, ◌<◌}
use native.Mathlib.Omega.{arith}
use lib.Dec.{T, eqb, leb, ltb}
use lib.ListN.{length, get_or, get_or-eq_default}
use borrow.Author.Tests.{eqb-true, leb-true, le-leb, ltb-true, ltb-false}
use Rattle.laws.specs.Tests.{both, one_of, either, never, both_left, both_right, both_true}
use Rattle.laws.specs.Below.{all, below}
use Rattle.file.specs.Files.{field_counts, fields_of}
use Rattle.file.specs.Format.{Text, Fields}
use Rattle.field.specs.Kinds as kind
use Rattle.field.specs.Kinds.{kinds, kind_of, admits}
use Rattle.field.specs.Names.{field}
use Rattle.field.specs.Stage.{first_unkind}
use Rattle.field.specs.Values.{is_empty, all_digits, is_digits, value}
use Rattle.field.specs.declared.Kind.{Kind}
use Rattle.field.proofs.ValueLaws.{digits_are, digits_bound}
use Rattle.keys.specs.Keys.{key_table, key_fields}
use Rattle.keys.specs.Ranks.{Numbers}
use Rattle.rules.proofs.KindLaws.{kind_at}
use Rattle.link.specs.Links as link
use Rattle.link.specs.Links.{links, link_of}
use Rattle.link.specs.Numeric.{numeric, code_kind, NumberAt, CodeAt, NumbersAt}
use Rattle.link.specs.declared.Link.{Link}
use Rattle.link.proofs.MatchLaws.{anywhere, free_past}

-- what holds of a text of a numeric kind, of a code's kind, and of 1-9 digits
more_digits : (a b : ℕ) (t : Text) → both (leb 1 a) (leb b 9) ≡ true → is_digits a b t ≡ true → is_digits 1 9 t ≡ true
more_digits a b t k e =
    let p = leb-true 1 a (both_left (leb 1 a) (leb b 9) k) in
    let q = leb-true b 9 (both_right (leb 1 a) (leb b 9) k) in
    let d = digits_are a b t e in
    let least = d.least in
    let most = d.most in
    both_true (both (leb 1 (length t)) (leb (length t) 9)) (all_digits t)
    (both_true (leb 1 (length t)) (leb (length t) 9) (le-leb 1 (length t) (omega arith)) (le-leb (length t) 9 (omega arith)))
    d.digits

pub numeric_digits : (k : Kind) (t : Text) → numeric k ≡ true → admits k t ≡ true → is_digits 1 9 t ≡ true
unfolding numeric admits
numeric_digits (Kind.Digits a b) t n e = more_digits a b t n e
numeric_digits (Kind.MaybeDigits a b) t n e = never n
numeric_digits (Kind.Text a b) t n e = never n
numeric_digits Kind.Date t n e = never n
numeric_digits Kind.MaybeDate t n e = never n
numeric_digits Kind.Time t n e = never n
numeric_digits Kind.Sign t n e = never n
numeric_digits Kind.Firm t n e = never n
numeric_digits Kind.LineType t n e = never n
numeric_digits Kind.CodeType t n e = never n
numeric_digits Kind.WeekType t n e = never n
numeric_digits Kind.None t n e = never n

pub code_digits : (k : Kind) (t : Text) → code_kind k ≡ true → admits k t ≡ true → (is_empty t ≡ true) ⊎ (is_digits 1 9 t ≡ true)
unfolding code_kind admits
code_digits (Kind.Digits a b) t n e = never n
code_digits (Kind.MaybeDigits a b) t n e = go (is_empty t) e
  where
    go : (z : Bool) → one_of z (is_digits a b t) ≡ true → (z ≡ true) ⊎ (is_digits 1 9 t ≡ true)
    go true q = inl refl
    go false q = inr (more_digits a b t n q)
code_digits (Kind.Text a b) t n e = never n
code_digits Kind.Date t n e = never n
code_digits Kind.MaybeDate t n e = never n
code_digits Kind.Time t n e = never n
code_digits Kind.Sign t n e = never n
code_digits Kind.Firm t n e = never n
code_digits Kind.LineType t n e = never n
code_digits Kind.CodeType t n e = never n
code_digits Kind.WeekType t n e = never n
code_digits Kind.None t n e = never n

pub digits_small : (t : Text) → is_digits 1 9 t ≡ true → (all_digits t ≡ true) × (length t ≤ 9) × (value t < 1000000000)
digits_small t e = let d = digits_are 1 9 t e in (d.digits, d.most, digits_bound 1 9 t e)

-- the tests of one field: a number of the record, and a code of the record
abbrev is_number : ℕ → ℕ → Bool
is_number file f = both (numeric (kind_of file f)) (both (leb 1 f) (leb f (fields_of file)))

abbrev is_code_field : ℕ → ℕ → Bool
is_code_field file f = both (code_kind (kind_of file f)) (both (leb 1 f) (leb f (fields_of file)))

number_at : (file f : ℕ) → is_number file f ≡ true → NumberAt file f
number_at file f e =
    let r = both_right (numeric (kind_of file f)) (both (leb 1 f) (leb f (fields_of file))) e in (
      both_left (numeric (kind_of file f)) (both (leb 1 f) (leb f (fields_of file))) e,
      leb-true _ _ (both_left (leb 1 f) (leb f (fields_of file)) r),
      leb-true _ _ (both_right (leb 1 f) (leb f (fields_of file)) r),
    )

code_at : (file f : ℕ) → is_code_field file f ≡ true → CodeAt file f
code_at file f e =
    let r = both_right (code_kind (kind_of file f)) (both (leb 1 f) (leb f (fields_of file))) e in (
      both_left (code_kind (kind_of file f)) (both (leb 1 f) (leb f (fields_of file))) e,
      leb-true _ _ (both_left (leb 1 f) (leb f (fields_of file)) r),
      leb-true _ _ (both_right (leb 1 f) (leb f (fields_of file)) r),
    )

-- the test of a link: the fields that it is made of are numbers or codes, and it stands where its fields say
fits : ℕ → ℕ → Link → Bool
fits file f Link.Free = true
fits file f Link.Line = is_number file f
fits file f Link.Stop = is_number file f
fits file f Link.Carrier = is_number file f
fits file f Link.Trip = both (eqb f 2) (both (is_number file 1) (is_number file 2))
fits file f Link.TripOrZero = both (eqb f 2) (both (is_number file 1) (is_number file 2))
fits file f Link.LineStop = both (eqb file 8) (both (eqb f 3) (both (is_number file 1) (is_number file 3)))
fits file f Link.Code = is_code_field file f

-- no file and no field past 13 has a link
far_file : (file f : ℕ) → 14 ≤ file → Link.Free ≡ link_of file f
unfolding link_of links
far_file file f h = rw (get_or-eq_default links [] h) (go f)
  where
    go : (f : ℕ) → Link.Free ≡ get_or (Link.Free ∷ []) f Link.Free
    go zero = refl
    go (suc f) = refl

few : List Link → Bool
few l = leb (length l) 13

is_true : (b : Bool) → T b → b ≡ true
is_true true t = refl
is_true false t = absurd t

far_field : (file f : ℕ) → 14 ≤ f → Link.Free ≡ link_of file f
unfolding few link_of links link.zastavky link.linky link.spoje link.zaslinky link.zasspoje link.udaje link.caskody link.altdop link.altlinky link.mistenky
far_field file f h =
    let n : length (get_or links file []) ≤ 13 = leb-true _ _ (is_true (few (get_or links file [])) (anywhere few links [] [] tt tt file tt)) in
    free_past (get_or links file []) f (omega arith)

-- it holds of all
all_fit : (file f : ℕ) → file < 14 → f < 14 → T (fits file f (link_of file f))
unfolding fits fields_of field_counts numeric code_kind link_of links link.zastavky link.linky link.spoje link.zaslinky link.zasspoje link.udaje link.caskody link.altdop link.altlinky link.mistenky kind_of kinds kind.zastavky kind.pevnykod kind.dopravci kind.linky kind.spoje kind.zaslinky kind.zasspoje kind.udaje kind.caskody kind.altdop kind.altlinky kind.mistenky
all_fit file f p q =
    below 14 (λ (i : ℕ). fits file i (link_of file i)) (below 14 (λ (k : ℕ). all 14 (λ (i : ℕ). fits k i (link_of k i))) tt file p) f q

fit : (file f : ℕ) → fits file f (link_of file f) ≡ true
unfolding fits
fit file f =
    either (ltb file 14)
    (λ p. either (ltb f 14)
    (λ q. is_true (fits file f (link_of file f)) (all_fit file f (ltb-true _ _ p) (ltb-true _ _ q)))
    (λ q. rw (sym (far_field file f (ltb-false _ _ q)))))
    (λ p. rw (sym (far_file file f (ltb-false _ _ p))))

-- a link by one field: that field is a number of the record
module _ (file f : ℕ) where
  pub line_numeric : link_of file f ≡ Link.Line → NumberAt file f
  unfolding fits
  line_numeric e = number_at file f (rw e at (fit file f))

  pub stop_numeric : link_of file f ≡ Link.Stop → NumberAt file f
  unfolding fits
  stop_numeric e = number_at file f (rw e at (fit file f))

  pub carrier_numeric : link_of file f ≡ Link.Carrier → NumberAt file f
  unfolding fits
  carrier_numeric e = number_at file f (rw e at (fit file f))

  -- a code is one or empty
  pub code_kind_lem : link_of file f ≡ Link.Code → CodeAt file f
  unfolding fits
  code_kind_lem e = code_at file f (rw e at (fit file f))

  -- a trip: fields 1 and 2, reported at the second
  two : both (eqb f 2) (both (is_number file 1) (is_number file 2)) ≡ true → (f ≡ 2) × NumberAt file 1 × NumberAt file 2
  two e =
      let r = both_right (eqb f 2) (both (is_number file 1) (is_number file 2)) e in (
        eqb-true f 2 (both_left (eqb f 2) (both (is_number file 1) (is_number file 2)) e),
        number_at file 1 (both_left (is_number file 1) (is_number file 2) r),
        number_at file 2 (both_right (is_number file 1) (is_number file 2) r),
      )

  pub trip_numeric : link_of file f ≡ Link.Trip → (f ≡ 2) × NumberAt file 1 × NumberAt file 2
  unfolding fits
  trip_numeric e = two (rw e at (fit file f))

  pub trip_or_zero_numeric : link_of file f ≡ Link.TripOrZero → (f ≡ 2) × NumberAt file 1 × NumberAt file 2
  unfolding fits
  trip_or_zero_numeric e = two (rw e at (fit file f))

  -- a line's stop: fields 1 and 3 of Zasspoje, reported at the third
  pub line_stop_numeric : link_of file f ≡ Link.LineStop → (file ≡ 8) × (f ≡ 3) × NumberAt file 1 × NumberAt file 3
  unfolding fits
  line_stop_numeric e =
      let z : both (eqb file 8) (both (eqb f 3) (both (is_number file 1) (is_number file 3))) ≡ true = rw e at (fit file f) in
      let y = both_right (eqb file 8) (both (eqb f 3) (both (is_number file 1) (is_number file 3))) z in
      let x = both_right (eqb f 3) (both (is_number file 1) (is_number file 3)) y in (
        eqb-true file 8 (both_left (eqb file 8) (both (eqb f 3) (both (is_number file 1) (is_number file 3))) z),
        eqb-true f 3 (both_left (eqb f 3) (both (is_number file 1) (is_number file 3)) y),
        number_at file 1 (both_left (is_number file 1) (is_number file 3) x),
        number_at file 3 (both_right (is_number file 1) (is_number file 3) x),
      )

-- each field of a key is a number of the record
numbers_test : ℕ → List ℕ → Bool
numbers_test file [] = true
numbers_test file (f ∷ fs) = both (is_number file f) (numbers_test file fs)

numbers_at : (file : ℕ) (fs : List ℕ) → numbers_test file fs ≡ true → NumbersAt file fs
unfolding numbers_test
numbers_at file [] e = tt
numbers_at file (f ∷ fs) e =
    (number_at file f (both_left (is_number file f) (numbers_test file fs) e), numbers_at file fs (both_right (is_number file f) (numbers_test file fs) e))

key_test : (file : ℕ) → file < 14 → T (numbers_test file (key_fields file))
unfolding numbers_test key_fields key_table fields_of field_counts numeric kind_of kinds kind.zastavky kind.pevnykod kind.dopravci kind.linky kind.spoje kind.zaslinky kind.zasspoje kind.udaje kind.caskody
key_test file h = below 14 (λ (k : ℕ). numbers_test k (key_fields k)) tt file h

no_key : (file : ℕ) → 14 ≤ file → key_fields file ≡ []
unfolding key_fields key_table
no_key file h = get_or-eq_default key_table [] h

pub keyed_numeric : (file : ℕ) → NumbersAt file (key_fields file)
keyed_numeric file =
    either (ltb file 14)
    (λ e. numbers_at file (key_fields file) (is_true _ (key_test file (ltb-true _ _ e))))
    (λ e. rw (no_key file (ltb-false _ _ e)) tt)

-- a record whose fields are of their kinds: a field that is a number, a code, and the fields of a key or of a link
module _ (file : ℕ) (r : Fields) (e : first_unkind file 1 r ≡ 0) (n : length r ≡ fields_of file) where
  pub number_kind : (f : ℕ) → NumberAt file f → is_digits 1 9 (field f r) ≡ true
  number_kind f k =
      let high = k.2 in
      numeric_digits (kind_of file f) (field f r) k.0 (kind_at file r e f k.1 (omega arith))

  pub code_text : (f : ℕ) → CodeAt file f → (is_empty (field f r) ≡ true) ⊎ (is_digits 1 9 (field f r) ≡ true)
  code_text f k =
      let high = k.2 in
      code_digits (kind_of file f) (field f r) k.0 (kind_at file r e f k.1 (omega arith))

  pub number_kinds : (fs : List ℕ) → NumbersAt file fs → Numbers fs r
  unfolding Numbers
  number_kinds [] k = tt
  number_kinds (f ∷ fs) k = (number_kind f k.0, number_kinds fs k.1)

  pub keyed_kinds : Numbers (key_fields file) r
  keyed_kinds = number_kinds (key_fields file) (keyed_numeric file)
