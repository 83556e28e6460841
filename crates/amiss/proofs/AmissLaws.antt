-- What is wrong with a field, link by link: whether a search found the record that it links to, and whether its sign is permitted.
use Rattle.std.specs.Prelude.{None, Option, Some}
use mathlib.Core.Path.{◌≡◌, sym, ◌∙◌}
use mathlib.Core.Bool.{Bool, true, false}
use mathlib.Core.List.{List, [], ◌∷◌}
use mathlib.Core.Logic.{◌⊎◌, inl, inr}
use Prim.Native.Nat.{ℕ}
use lib.Dec.{eqb}
use borrow.Author.Tests.{eq-eqb, ne_eqb, not-true}
use Rattle.laws.specs.Tests.{pick, both}
use Rattle.file.specs.Format.{Fields}
use Rattle.field.specs.Names.{field}
use Rattle.field.specs.Values.{is_empty, given, value}
use Rattle.keys.specs.Keys.{numbers, has, first_with}
use Rattle.keys.proofs.KeyLaws.{has_found, has_none}
use Rattle.link.specs.Links.{link_of, target, link_fields, reaches, met}
use Rattle.link.specs.Signs.{sign_of, is_permitted, same_sign, code_fits, sign_stands}
use Rattle.link.specs.Stage.{amiss}
use Rattle.link.specs.declared.Link.{Link}
use Rattle.thirteen.specs.Batch.{Batch, records_of}

-- 8 where a link is not met, 9 where a sign does not fit
abbrev pub unmet : Bool → ℕ
unmet t = pick t 0 8

abbrev pub unfit : Bool → ℕ
unfit t = pick t 0 9

-- a key of one number, and of two, as a record has it
pub one_key : (f a : ℕ) (r : Fields) → a ≡ value (field f r) → a ∷ [] ≡ numbers (f ∷ []) r
unfolding numbers
one_key f a r e = rw e

pub two_key : (f g a b : ℕ) (r : Fields) → a ≡ value (field f r) → b ≡ value (field g r) → a ∷ b ∷ [] ≡ numbers (f ∷ g ∷ []) r
unfolding numbers
two_key f g a b r e h = rw (e, h)

-- what a search found says whether there is such a record
module _ (file : ℕ) {j k : List ℕ} (rs : List Fields) (s : j ≡ k) {found : Option ℕ} (e : found ≡ first_with file j 0 rs) where
  pub found_has : (p : ℕ) → found ≡ Some p → has file k rs ≡ true
  found_has p t = has_found file k 0 rs p (rw s at (sym e ∙ t))

  pub nothing_has : found ≡ None → has file k rs ≡ false
  nothing_has t = has_none file k 0 rs (rw s at (sym e ∙ t))

  pub found_met : (p : ℕ) → found ≡ Some p → 0 ≡ unmet (has file k rs)
  found_met p t = rw (found_has p t)

  pub nothing_met : found ≡ None → 8 ≡ unmet (has file k rs)
  nothing_met t = rw (nothing_has t)

-- Zasspoje's second code, and any other
module _ (file f : ℕ) where
  pub is_second : file ≡ 8 → f ≡ 7 → both (eqb file 8) (eqb f 7) ≡ true
  is_second e h = rw (eq-eqb file 8 e, eq-eqb f 7 h)

  pub is_other : (file ≡ 8 → ⊥) ⊎ ((file ≡ 8) × (f ≡ 7 → ⊥)) → both (eqb file 8) (eqb f 7) ≡ false
  is_other (inl n) = rw (ne_eqb file 8 n)
  is_other (inr w) = rw (eq-eqb file 8 w.0, ne_eqb f 7 w.1)

-- each link but a code has a sign that fits, so the link is all
module _ (b : Batch) (file f : ℕ) (r : Fields) where
  pub free_amiss : Link.Free ≡ link_of file f → 0 ≡ amiss b file r f
  unfolding amiss met sign_stands
  free_amiss e = rw (← e)

  pub line_amiss : Link.Line ≡ link_of file f → unmet (has 5 (numbers (f ∷ []) r) (records_of b 5)) ≡ amiss b file r f
  unfolding amiss met sign_stands reaches target link_fields
  line_amiss e = rw (← e)

  pub stop_amiss : Link.Stop ≡ link_of file f → unmet (has 2 (numbers (f ∷ []) r) (records_of b 2)) ≡ amiss b file r f
  unfolding amiss met sign_stands reaches target link_fields
  stop_amiss e = rw (← e)

  pub carrier_amiss : Link.Carrier ≡ link_of file f → unmet (has 4 (numbers (f ∷ []) r) (records_of b 4)) ≡ amiss b file r f
  unfolding amiss met sign_stands reaches target link_fields
  carrier_amiss e = rw (← e)

  pub trip_amiss : Link.Trip ≡ link_of file f → f ≡ 2 → unmet (has 6 (numbers (1 ∷ f ∷ []) r) (records_of b 6)) ≡ amiss b file r f
  unfolding amiss met sign_stands reaches target link_fields
  trip_amiss e h = rw (← e, h)

  pub line_stop_amiss : Link.LineStop ≡ link_of file f → f ≡ 3 → unmet (has 7 (numbers (1 ∷ f ∷ []) r) (records_of b 7)) ≡ amiss b file r f
  unfolding amiss met sign_stands reaches target link_fields
  line_stop_amiss e h = rw (← e, h)

  pub seat_amiss : Link.TripOrZero ≡ link_of file f → unmet (met b Link.TripOrZero f r) ≡ amiss b file r f
  unfolding amiss sign_stands
  seat_amiss e = rw (← e)

  -- Mistenky's trip, by its number: 0 links to nothing
  pub seat_zero : value (field f r) ≡ 0 → 0 ≡ unmet (met b Link.TripOrZero f r)
  unfolding met
  seat_zero e = rw (eq-eqb (value (field f r)) 0 e)

  pub seat_trip : (value (field f r) ≡ 0 → ⊥) → f ≡ 2
      → unmet (has 6 (numbers (1 ∷ f ∷ []) r) (records_of b 6)) ≡ unmet (met b Link.TripOrZero f r)
  unfolding met reaches target link_fields
  seat_trip e h = rw (ne_eqb (value (field f r)) 0 e, h)

  -- a code: empty, not found, found
  module _ (e : Link.Code ≡ link_of file f) where
    pub code_empty : is_empty (field f r) ≡ true → 0 ≡ amiss b file r f
    unfolding amiss met sign_stands code_fits
    code_empty z = rw (← e, z)

    pub code_none : is_empty (field f r) ≡ false → has 3 (numbers (f ∷ []) r) (records_of b 3) ≡ false → 8 ≡ amiss b file r f
    unfolding amiss met sign_stands reaches target link_fields
    code_none z h = rw (← e, z, h)

    pub code_found : is_empty (field f r) ≡ false → has 3 (numbers (f ∷ []) r) (records_of b 3) ≡ true
        → unfit (code_fits b file f r) ≡ amiss b file r f
    unfolding amiss met sign_stands reaches target link_fields
    code_found z h = rw (← e, z, h)

  -- the sign of a code that is given: refused, or permitted
  module _ (g : given (field f r) ≡ true) {sign : ℕ} (e : sign ≡ sign_of b (value (field f r))) where
    pub sign_refused : is_permitted file sign ≡ false → 9 ≡ unfit (code_fits b file f r)
    unfolding code_fits
    sign_refused p = rw (not-true (is_empty (field f r)) g, ← e, p)

    module _ (p : is_permitted file sign ≡ true) where
      fits : code_fits b file f r ≡ same_sign b file f r
      unfolding code_fits
      fits = rw (not-true (is_empty (field f r)) g, ← e, p)

      -- no second code of Zasspoje
      pub sign_alone : both (eqb file 8) (eqb f 7) ≡ false → 0 ≡ unfit (code_fits b file f r)
      unfolding same_sign
      sign_alone h = rw (fits, h)

      -- one whose first code is empty, or has the same sign, or another
      module _ (h : both (eqb file 8) (eqb f 7) ≡ true) where
        pub sign_first : is_empty (field 6 r) ≡ true → 0 ≡ unfit (code_fits b file f r)
        unfolding same_sign
        sign_first z = rw (fits, h, z)

        module _ (z : is_empty (field 6 r) ≡ false) {first : ℕ} (q : first ≡ sign_of b (value (field 6 r))) where
          pub sign_same : first ≡ sign → 0 ≡ unfit (code_fits b file f r)
          unfolding same_sign
          sign_same s = rw (fits, h, z, ← e, ← q, eq-eqb first sign s)

          pub sign_other : (first ≡ sign → ⊥) → 9 ≡ unfit (code_fits b file f r)
          unfolding same_sign
          sign_other s = rw (fits, h, z, ← e, ← q, ne_eqb first sign s)
