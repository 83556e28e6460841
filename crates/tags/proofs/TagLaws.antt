-- Tags: two that are the same number ask for the same, and what each field's tag asks for is so exactly if nothing is wrong with the field.
use mathlib.Core.Path.{◌≡◌, refl, sym, ◌∙◌}
use mathlib.Core.Bool.{Bool, true, false}
use mathlib.Core.List.{[], ◌∷◌}
use Prim.Native.Nat.{ℕ, ◌≤◌, ◌<◌}
use native.Mathlib.Omega.{arith}
use lib.Dec.{eqb}
use lib.ListN.{length}
use borrow.Author.Tests.{eqb-true}
use Rattle.laws.specs.Tests.{both, either}
use Rattle.file.specs.Files.{fields_of}
use Rattle.file.specs.Format.{Fields}
use Rattle.field.specs.Names.{field}
use Rattle.field.specs.Stage.{first_unkind}
use Rattle.field.specs.Values.{is_empty, value}
use Rattle.field.proofs.ValueLaws.{digits_are}
use Rattle.keys.specs.Keys.{numbers, has, none}
use Rattle.link.specs.Links.{links, zasspoje, link_of}
use Rattle.link.specs.Numeric.{NumberAt}
use Rattle.link.proofs.KindOfLinks.{number_kind, line_numeric, stop_numeric, carrier_numeric, trip_numeric, trip_or_zero_numeric, line_stop_numeric}
use Rattle.link.specs.Signs.{sign_of, is_permitted, code_fits, same_sign}
use Rattle.link.specs.Stage.{amiss}
use Rattle.link.specs.declared.Link.{Link}
use Rattle.thirteen.specs.Batch.{Batch, records_of}
use Rattle.amiss.proofs.AmissLaws.{unmet, unfit, one_key, two_key, free_amiss, line_amiss, stop_amiss, carrier_amiss, trip_amiss, line_stop_amiss, seat_amiss, seat_zero, seat_trip, code_empty, code_none, code_found}
use Rattle.tags.specs.Tags.{tag, fitting, fine, Tagged}

-- one number is the tag of one kind and one pair of numbers only
pub tag_kind : (k a x l c y : ℕ) → a < none → x < none → c < none → y < none → tag k a x ≡ tag l c y → (k ≡ l) × (a ≡ c) × (x ≡ y)
tag_kind k a x l c y p q r s e = (omega arith, omega arith, omega arith)

-- a field that is right has 0
met_right : (t : Bool) → t ≡ eqb (unmet t) 0
met_right true = refl
met_right false = refl

fit_right : (t : Bool) → t ≡ eqb (unfit t) 0
fit_right true = refl
fit_right false = refl

all_right : (t : Bool) → t ≡ both t true
all_right true = refl
all_right false = refl

-- a link by one number, and by two
module _ (b : Batch) (k f x : ℕ) (r : Fields) (n : ℕ) (e : x ≡ value (field f r)) where
  one_means : unmet (has k (numbers (f ∷ []) r) (records_of b k)) ≡ n → has k (x ∷ []) (records_of b k) ≡ eqb n 0
  one_means h = rw (one_key f x r e, ← h) (met_right (has k (numbers (f ∷ []) r) (records_of b k)))

  two_means : (a : ℕ) → a ≡ value (field 1 r) → unmet (has k (numbers (1 ∷ f ∷ []) r) (records_of b k)) ≡ n → has k (a ∷ x ∷ []) (records_of b k) ≡ eqb n 0
  two_means a d h = rw (two_key 1 f a x r d e, ← h) (met_right (has k (numbers (1 ∷ f ∷ []) r) (records_of b k)))

-- a code that is given, by its number
module _ (b : Batch) (file f : ℕ) (r : Fields) (e : Link.Code ≡ link_of file f) (g : is_empty (field f r) ≡ false) where
  abbrev x : ℕ
  x = value (field f r)

  fits_both : code_fits b file f r ≡ both (is_permitted file (sign_of b x)) (same_sign b file f r)
  unfolding code_fits
  fits_both = rw g

  code_means : both (fitting b file x) (same_sign b file f r) ≡ eqb (amiss b file r f) 0
  code_means =
      let k = one_key f x r refl in
      either (has 3 (x ∷ []) (records_of b 3))
      (λ h. rw (h, ← fits_both, ← code_found b file f r e g (rw k at h)) (fit_right (code_fits b file f r)))
      (λ h. rw (h, ← code_none b file f r e g (rw k at h)))

  alone_means : same_sign b file f r ≡ true → fitting b file x ≡ eqb (amiss b file r f) 0
  alone_means s = all_right (fitting b file x) ∙ rw s at code_means

-- the tag of a field, link by link
module _ (file f : ℕ) (r : Fields) (t : ℕ) where
  -- nothing is asked
  nothing_tagged : t ≡ 0 → ((b : Batch) → 0 ≡ amiss b file r f) → Tagged file f r t
  unfolding fine
  nothing_tagged z e = record {
    kind = 0;
    first = 0;
    number = 0;
    least = omega arith;
    small = omega arith;
    is = z;
    means = λ b. rw (← e b);
  }

  pub free_tagged : t ≡ 0 → Link.Free ≡ link_of file f → Tagged file f r t
  free_tagged z e = nothing_tagged z (λ b. free_amiss b file f r e)

  module _ (v : value (field f r) < none) where
    pub line_tagged : Link.Line ≡ link_of file f → t ≡ tag 5 0 (value (field f r)) → Tagged file f r t
    unfolding fine
    line_tagged e z = record {
      kind = 5;
      first = 0;
      number = value (field f r);
      least = omega arith;
      small = v;
      is = z;
      means = λ b. one_means b 5 f (value (field f r)) r (amiss b file r f) refl (line_amiss b file f r e);
    }

    pub stop_tagged : Link.Stop ≡ link_of file f → t ≡ tag 2 0 (value (field f r)) → Tagged file f r t
    unfolding fine
    stop_tagged e z = record {
      kind = 2;
      first = 0;
      number = value (field f r);
      least = omega arith;
      small = v;
      is = z;
      means = λ b. one_means b 2 f (value (field f r)) r (amiss b file r f) refl (stop_amiss b file f r e);
    }

    pub carrier_tagged : Link.Carrier ≡ link_of file f → t ≡ tag 4 0 (value (field f r)) → Tagged file f r t
    unfolding fine
    carrier_tagged e z = record {
      kind = 4;
      first = 0;
      number = value (field f r);
      least = omega arith;
      small = v;
      is = z;
      means = λ b. one_means b 4 f (value (field f r)) r (amiss b file r f) refl (carrier_amiss b file f r e);
    }

    module _ (a : ℕ) (d : a ≡ value (field 1 r)) (l : a < none) where
      pub trip_tagged : Link.Trip ≡ link_of file f → f ≡ 2 → t ≡ tag 6 a (value (field f r)) → Tagged file f r t
      unfolding fine
      trip_tagged e h z = record {
        kind = 6;
        first = a;
        number = value (field f r);
        least = l;
        small = v;
        is = z;
        means = λ b. two_means b 6 f (value (field f r)) r (amiss b file r f) refl a d (trip_amiss b file f r e h);
      }

      pub line_stop_tagged : Link.LineStop ≡ link_of file f → f ≡ 3 → t ≡ tag 7 a (value (field f r)) → Tagged file f r t
      unfolding fine
      line_stop_tagged e h z = record {
        kind = 7;
        first = a;
        number = value (field f r);
        least = l;
        small = v;
        is = z;
        means = λ b. two_means b 7 f (value (field f r)) r (amiss b file r f) refl a d (line_stop_amiss b file f r e h);
      }

      -- Mistenky's trip
      pub seat_tagged : Link.TripOrZero ≡ link_of file f → f ≡ 2 → (value (field f r) ≡ 0 → ⊥) → t ≡ tag 6 a (value (field f r)) → Tagged file f r t
      unfolding fine
      seat_tagged e h some z = record {
        kind = 6;
        first = a;
        number = value (field f r);
        least = l;
        small = v;
        is = z;
        means = λ b. two_means b 6 f (value (field f r)) r (amiss b file r f) refl a d (seat_trip b file f r some h ∙ seat_amiss b file f r e);
      }

  pub no_seat_tagged : Link.TripOrZero ≡ link_of file f → value (field f r) ≡ 0 → t ≡ 0 → Tagged file f r t
  no_seat_tagged e h z = nothing_tagged z (λ b. seat_zero b file f r h ∙ seat_amiss b file f r e)

  -- a code
  module _ (e : Link.Code ≡ link_of file f) where
    pub code_tagged : file ≤ 13 → is_empty (field f r) ≡ false → value (field f r) < none → ((b : Batch) → same_sign b file f r ≡ true) → t ≡ tag 3 file (value (field f r))
        → Tagged file f r t
    unfolding fine
    code_tagged n g v s z = record {
      kind = 3;
      first = file;
      number = value (field f r);
      least = omega arith;
      small = v;
      is = z;
      means = λ b. alone_means b file f r e g (s b);
    }

-- a code with which no other has to be compared
pub alone_sign : (b : Batch) (file f : ℕ) (r : Fields) → both (eqb file 8) (eqb f 7) ≡ false → same_sign b file f r ≡ true
unfolding same_sign
alone_sign b file f r h = rw h

first_empty : (b : Batch) (r : Fields) → is_empty (field 6 r) ≡ true → same_sign b 8 7 r ≡ true
unfolding same_sign
first_empty b r h = rw h

-- Zasspoje's second code
pub second_code_lem : Link.Code ≡ link_of 8 7
unfolding link_of links zasspoje
second_code_lem = refl

module _ (r : Fields) (t : ℕ) (g : is_empty (field 7 r) ≡ false) (v : value (field 7 r) < none) where
  -- its first is empty
  pub second_tagged : is_empty (field 6 r) ≡ true → t ≡ tag 3 8 (value (field 7 r)) → Tagged 8 7 r t
  second_tagged h z = code_tagged 8 7 r t second_code_lem (omega arith) g v (λ b. first_empty b r h) z

  -- both are given
  pub pair_tagged : is_empty (field 6 r) ≡ false → value (field 6 r) < none → t ≡ tag 8 (value (field 6 r)) (value (field 7 r)) → Tagged 8 7 r t
  unfolding fine same_sign
  pair_tagged h w z = record {
    kind = 8;
    first = value (field 6 r);
    number = value (field 7 r);
    least = w;
    small = v;
    is = z;
    means = λ b. rw h at (code_means b 8 7 r second_code_lem g);
  }

-- an empty field: a link by numbers has none, and a code that is empty links to nothing
module _ (file f : ℕ) (r : Fields) (k : first_unkind file 1 r ≡ 0) (n : length r ≡ fields_of file) (z : is_empty (field f r) ≡ true) where
  no_number : NumberAt file f → ⊥
  no_number d =
      let e = eqb-true (length (field f r)) 0 z in
      omega (arith, (digits_are 1 9 (field f r) (number_kind file r k n f d)).least)

  empty_amiss : (b : Batch) → 0 ≡ amiss b file r f
  empty_amiss b = go (link_of file f) refl
    where
      go : (l : Link) → l ≡ link_of file f → 0 ≡ amiss b file r f
      go Link.Free e = free_amiss b file f r e
      go Link.Line e = absurd (no_number (line_numeric file f (sym e)))
      go Link.Stop e = absurd (no_number (stop_numeric file f (sym e)))
      go Link.Carrier e = absurd (no_number (carrier_numeric file f (sym e)))
      go Link.Trip e = let t = trip_numeric file f (sym e) in absurd (no_number (rw t.0 t.2))
      go Link.TripOrZero e = let t = trip_or_zero_numeric file f (sym e) in absurd (no_number (rw t.0 t.2))
      go Link.LineStop e = let t = line_stop_numeric file f (sym e) in absurd (no_number (rw t.1 t.3))
      go Link.Code e = code_empty b file f r e z

  pub none_tagged : Tagged file f r 0
  none_tagged = nothing_tagged file f r 0 refl empty_amiss
