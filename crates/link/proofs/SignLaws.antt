-- The sign of a code number is that of the record of Pevnykod that has it, and the tests of a code's sign are the quantified statements.
use mathlib.Core.Path.{◌≡◌, refl, sym, ap, ◌∙◌}
use mathlib.Core.Bool.{true}
use mathlib.Core.List.{List, [], ◌∷◌}
use mathlib.Core.Logic.{◌⊎◌, inl, inr}
use Prim.Native.Nat.{ℕ, zero, suc, ◌<◌}
use native.Mathlib.Omega.{arith}
use lib.Dec.{eqb}
use lib.ListN.{length, get_or}
use borrow.Author.Tests.{eqb-true, eq-eqb}
use Rattle.laws.specs.Tests.{both, one_of, either, never, both_left, both_right, both_true}
use Rattle.file.specs.Format.{Fields}
use Rattle.field.specs.Values.{is_empty}
use Rattle.field.specs.Names.{field}
use Rattle.keys.specs.Keys.{key_of, same, has}
use Rattle.thirteen.specs.Batch.{Batch, records_of}
use Rattle.link.specs.Signs.{
  codes_file,
  first_byte,
  sign_in,
  sign_of,
  permitted_signs,
  is_in,
  is_permitted,
  same_sign,
  code_fits,
  sign_stands,
}
use Rattle.link.specs.Met.{Distinct, Reaches, number, Sign, PermittedIn, OneSign}
use Rattle.link.specs.declared.Link.{Link}
use Rattle.link.proofs.HasLaws.{one_left, one_right, one_cases, same_equal, equal_same}
use Rattle.link.proofs.FaultLaws.{Fits}
use Rattle.link.proofs.TableLaws.{key_column, Meets, reaches_has, met_meets, meets_met}

-- a number that is in a list by test stands in it
pub in_at : (x : ℕ) (ys : List ℕ) → is_in x ys ≡ true → (k : ℕ) × (k < length ys) × (get_or ys k 0 ≡ x)
unfolding is_in
in_at x [] e = never e
in_at x (y ∷ ys) e = go (one_cases (eqb x y) (is_in x ys) e) (in_at x ys)
  where
    go : (eqb x y ≡ true) ⊎ (is_in x ys ≡ true) → (is_in x ys ≡ true → (k : ℕ) × (k < length ys) × (get_or ys k 0 ≡ x))
        → (k : ℕ) × (k < length (y ∷ ys)) × (get_or (y ∷ ys) k 0 ≡ x)
    go (inl p) rest = (0, omega arith, sym (eqb-true x y p))
    go (inr p) rest = let h = rest p in (suc h.0, omega (arith, h.1), h.2)

-- and one that stands in it is in it by test
pub at_in : (x : ℕ) (ys : List ℕ) (k : ℕ) → k < length ys → get_or ys k 0 ≡ x → is_in x ys ≡ true
unfolding is_in
at_in x [] k h e = absurd (omega arith)
at_in x (y ∷ ys) zero h e = one_left (eqb x y) (is_in x ys) (eq-eqb x y (sym e))
at_in x (y ∷ ys) (suc k) h e = one_right (eqb x y) (is_in x ys) (at_in x ys k (omega arith) e)

-- the key of a record of Pevnykod is its number
pub code_key : (q : Fields) → key_of codes_file q ≡ number 1 q ∷ []
code_key q = (key_column q).code_key

-- the record at some place has this number, and this is its sign
abbrev pub SignAt : List Fields → ℕ → ℕ → Type 0
SignAt rs c x = (i : ℕ) × (i < length rs) × (number 1 (get_or rs i []) ≡ c) × (first_byte (field 2 (get_or rs i [])) ≡ x)

-- a number that some record has, has the sign of one that has it
pub sign_at : (rs : List Fields) (c : ℕ) → has codes_file (c ∷ []) rs ≡ true → SignAt rs c (sign_in rs c)
unfolding has sign_in
sign_at [] c e = never e
sign_at (r ∷ rs) c e =
    either (same (key_of codes_file r) (c ∷ []))
    (λ p.
    let k : number 1 r ∷ [] ≡ c ∷ [] = sym (code_key r) ∙ same_equal (key_of codes_file r) (c ∷ []) p in
    let n : number 1 r ≡ c = cc in
    (0, omega arith, n, rw p))
    (λ p. let h = sign_at rs c (rw p at e) in (suc h.0, omega (arith, h.1), h.2, rw p h.3))

-- it is the first one's
pub sign_is : (rs : List Fields) (c i : ℕ) → i < length rs → number 1 (get_or rs i []) ≡ c → ((j : ℕ) → j < i → number 1 (get_or rs j []) ≡ c → ⊥)
    → sign_in rs c ≡ first_byte (field 2 (get_or rs i []))
unfolding sign_in
sign_is [] c i l e none = absurd (omega arith)
sign_is (r ∷ rs) c zero l e none =
    let k : key_of codes_file r ≡ c ∷ [] = code_key r ∙ ap (λ (n : ℕ). n ∷ []) e in
    rw (equal_same (key_of codes_file r) (c ∷ []) k)
sign_is (r ∷ rs) c (suc i) l e none =
    either (same (key_of codes_file r) (c ∷ []))
    (λ p.
    let k : number 1 r ∷ [] ≡ c ∷ [] = sym (code_key r) ∙ same_equal (key_of codes_file r) (c ∷ []) p in
    let n : number 1 r ≡ c = cc in
    absurd (none 0 (omega arith) n))
    (λ p. rw p (sign_is rs c i (omega arith) e (λ j h. none (suc j) (omega arith))))

module _ (b : Batch) where
  -- a code number that a record of Pevnykod has, has a sign
  pub reached_sign : (c : ℕ) → Reaches b 3 (c ∷ []) → Sign b c (sign_of b c)
  unfolding sign_of
  reached_sign c q =
      let rs = records_of b codes_file in
      let h = sign_at rs c (reaches_has b codes_file (c ∷ []) q) in
      (get_or rs h.0 [], (h.0, h.1, refl), h.2, h.3)

  -- where no two records have one number, it has no other
  pub sign_only : Distinct b 3 → (c x : ℕ) → Sign b c x → sign_of b c ≡ x
  unfolding sign_of
  sign_only d c x (q, s, n, y) =
      let rs = records_of b codes_file in
      let at : number 1 (get_or rs s.0 []) ≡ c = ap (λ (r : Fields). number 1 r) s.2 ∙ n in
      sign_is rs c s.0 s.1 at
      (λ j h e.
      let k : key_of codes_file (get_or rs j []) ≡ key_of codes_file (get_or rs s.0 []) =
      code_key (get_or rs j []) ∙ ap (λ (m : ℕ). m ∷ []) (e ∙ sym at) ∙ sym (code_key (get_or rs s.0 [])) in
      d j s.0 h s.1 k)
      ∙ ap (λ (r : Fields). first_byte (field 2 r)) s.2
      ∙ y

-- a code is empty, or its sign is permitted in this file
abbrev pub SignedCode : Batch → ℕ → ℕ → Fields → Type 0
SignedCode b file f r = (length (field f r) ≡ 0) ⊎ ((x : ℕ) × Sign b (number f r) x × PermittedIn file x)

module _ (b : Batch) (file f : ℕ) (r : Fields) where
  -- so it is where the code fits
  pub fits_signed : Fits b file Link.Code f r → SignedCode b file f r
  unfolding sign_stands code_fits is_permitted
  fits_signed e =
      go (met_meets b Link.Code f r e.0)
      (one_cases (is_empty (field f r)) (both (is_permitted file (sign_of b (number f r))) (same_sign b file f r)) e.1)
    where
      go : (length (field f r) ≡ 0) ⊎ Reaches b 3 (number f r ∷ [])
          → (is_empty (field f r) ≡ true) ⊎ (both (is_permitted file (sign_of b (number f r))) (same_sign b file f r) ≡ true)
          → SignedCode b file f r
      go (inl z) t = inl z
      go (inr q) (inl p) = inl (eqb-true (length (field f r)) 0 p)
      go (inr q) (inr p) =
          let x = sign_of b (number f r) in
          let y = both_left (is_permitted file x) (same_sign b file f r) p in
          inr (x, reached_sign b (number f r) q, in_at x (get_or permitted_signs file []) y)

  -- and a code fits where it is so; in Zasspoje its sign is to be that of the first code too
  pub signed_fits : Distinct b 3 → Meets b Link.Code f r → SignedCode b file f r → (length (field f r) ≡ 0) ⊎ (same_sign b file f r ≡ true)
      → Fits b file Link.Code f r
  unfolding sign_stands code_fits is_permitted
  signed_fits d m s t = (meets_met b Link.Code f r m, go s t)
    where
      go : SignedCode b file f r → (length (field f r) ≡ 0) ⊎ (same_sign b file f r ≡ true)
          → one_of (is_empty (field f r)) (both (is_permitted file (sign_of b (number f r))) (same_sign b file f r)) ≡ true
      go (inl z) t = one_left (is_empty (field f r)) _ (eq-eqb (length (field f r)) 0 z)
      go (inr p) (inl z) = one_left (is_empty (field f r)) _ (eq-eqb (length (field f r)) 0 z)
      go (inr (x, s, p)) (inr y) =
          let z : is_permitted file (sign_of b (number f r)) ≡ true =
          rw (sign_only b d (number f r) x s) (at_in x (get_or permitted_signs file []) p.0 p.1 p.2) in
          one_right (is_empty (field f r)) _ (both_true (is_permitted file (sign_of b (number f r))) (same_sign b file f r) z y)

module _ (b : Batch) (r : Fields) where
  -- Zasspoje's two codes have one sign where the second fits
  pub fits_one : Fits b 8 Link.Code 6 r → Fits b 8 Link.Code 7 r → OneSign b 6 7 r
  unfolding sign_stands code_fits same_sign
  fits_one d e =
      go (met_meets b Link.Code 6 r d.0) (met_meets b Link.Code 7 r e.0)
      (one_cases (is_empty (field 7 r)) (both (is_permitted 8 (sign_of b (number 7 r))) (same_sign b 8 7 r)) e.1)
    where
      last : (x y : ℕ) → Sign b (number 6 r) x → Sign b (number 7 r) y → (is_empty (field 6 r) ≡ true) ⊎ (eqb x y ≡ true) → OneSign b 6 7 r
      last x y p q (inl z) = inl (eqb-true (length (field 6 r)) 0 z)
      last x y p q (inr z) = inr (inr (x, p, rw (eqb-true x y z) q))

      go : (length (field 6 r) ≡ 0) ⊎ Reaches b 3 (number 6 r ∷ []) → (length (field 7 r) ≡ 0) ⊎ Reaches b 3 (number 7 r ∷ [])
          → (is_empty (field 7 r) ≡ true) ⊎ (both (is_permitted 8 (sign_of b (number 7 r))) (same_sign b 8 7 r) ≡ true) → OneSign b 6 7 r
      go (inl z) q t = inl z
      go (inr p) (inl z) t = inr (inl z)
      go (inr p) (inr q) (inl z) = inr (inl (eqb-true (length (field 7 r)) 0 z))
      go (inr p) (inr q) (inr y) =
          let x = sign_of b (number 6 r) in
          let w = sign_of b (number 7 r) in
          last x w (reached_sign b (number 6 r) p) (reached_sign b (number 7 r) q)
          (one_cases (is_empty (field 6 r)) (eqb x w) (both_right (is_permitted 8 w) (same_sign b 8 7 r) y))

  -- and the second has the sign of the first where it is so
  pub one_same : Distinct b 3 → OneSign b 6 7 r → (length (field 7 r) ≡ 0) ⊎ (same_sign b 8 7 r ≡ true)
  unfolding same_sign
  one_same d (inl z) = inr (one_left (is_empty (field 6 r)) _ (eq-eqb (length (field 6 r)) 0 z))
  one_same d (inr (inl z)) = inl z
  one_same d (inr (inr (x, p, q))) =
      let e : sign_of b (number 6 r) ≡ sign_of b (number 7 r) = sign_only b d (number 6 r) x p ∙ sym (sign_only b d (number 7 r) x q) in
      inr (one_right (is_empty (field 6 r)) _ (eq-eqb (sign_of b (number 6 r)) (sign_of b (number 7 r)) e))
