-- Laws of what the writer lays: one lay after another is one, a field has the size of its text and 3 or 5 bytes more, and the tests
-- of the code are those of `has_field` and `fits`.
use mathlib.Core.Path.{◌≡◌, refl, sym, ◌∙◌}
use mathlib.Core.Bool.{Bool, true, false}
use mathlib.Core.List.{List, [], ◌∷◌, ◌++◌}
use Prim.Native.Nat.{ℕ, zero, suc, ◌+◌, ◌-◌, ◌≤◌, ◌<◌}
use native.Mathlib.Omega.{arith}
use lib.Dec.{eqb, leb}
use lib.ListN.{length, get_or, length-append, get_or-eq_default}
use borrow.Rule.Slice.PartMut.{mid_of, put_mid}
use borrow.Author.Tests.{le-leb, lt-leb, leb-true, leb-false}
use Rattle.laws.specs.Tests.{both, either}
use Rattle.laws.specs.Splice.{splice, splice_then, laid_part}
use Rattle.laws.specs.Numbered.{answered, refused}
use Rattle.file.specs.Bytes.{quote, permitted_text}
use Rattle.file.specs.Format.{Text, ending, written_field}
use Rattle.file.specs.Files.{field_counts, fields_of, is_file}
use Rattle.file.specs.Writing.{has_field, field_bytes, written_of, buffer_of}

-- a laid from `at` on, and b after it
pub laid_on : (d x y : List ℕ) (at : ℕ) (a b : List ℕ) (n : ℕ) → x ≡ splice d at a → n ≡ at + length a → n ≤ length d → y ≡ splice x n b → y ≡ splice d at (a ++ b)
laid_on d x y at a b n p e h q = q ∙ rw p (splice_then d at a b n e h)

-- text plus 3 bytes, or plus 5 for a last field
pub field_size : (last : Bool) (t : Text) → length (written_field last t) ≡ length t + length (quote ∷ quote ∷ ending last)
unfolding written_field
field_size last t = simp length-append (omega arith)

-- quote, text, and the closing of a last field or of another
pub field_laid : (d x y z t : List ℕ) (last b : Bool) → last ≡ b → length (written_field last t) ≤ length d → x ≡ splice d 0 (quote ∷ []) → y ≡ splice x 1 t
    → z ≡ splice y (length t + 1) (quote ∷ ending b) → z ≡ splice d 0 (written_field last t)
unfolding written_field
field_laid d x y z t last b e h p q r =
    let l = field_size last t in
    rw e
    (laid_on d y z 0 (quote ∷ t) (quote ∷ ending b) (length t + 1) (laid_on d x y 0 (quote ∷ []) t 1 p (omega arith) (omega arith) q) (omega arith) (omega arith) r)

-- few enough to be added to any text's length
pub beside_most : (last : Bool) → length (quote ∷ quote ∷ ending last) ≤ 5
beside_most true = omega arith
beside_most false = omega arith

-- no file but the thirteen has fields
pub fields_file : (file f : ℕ) → 1 ≤ f → f ≤ fields_of file → (1 ≤ file) × (file ≤ 13)
unfolding fields_of field_counts
fields_file file f h k = either (leb 14 file) (λ e. absurd (omega (arith, far (leb-true 14 file e)))) (λ e. (low file k, omega (arith, leb-false 14 file e)))
  where
    far : 14 ≤ file → get_or (0 ∷ field_counts) file 0 ≡ 0
    far g = get_or-eq_default (0 ∷ field_counts) 0 g

    low : (m : ℕ) → f ≤ get_or (0 ∷ field_counts) m 0 → 1 ≤ m
    low zero g = absurd (omega arith)
    low (suc m) g = omega arith

-- a field that the count of the file's fields allows is one that the file has
pub has_field_lem : (file f : ℕ) → 1 ≤ f → f ≤ fields_of file → has_field file f ≡ true
unfolding has_field
has_field_lem file f h k =
    let z = fields_file file f h k in
    rw (le-leb 1 file z.0, le-leb file 13 z.1, le-leb 1 f h, le-leb f (fields_of file) k)

-- none has a field 0; from 1 on the count decides
pub no_field_0 : (file f : ℕ) → f ≡ 0 → has_field file f ≡ false
unfolding has_field
no_field_0 file f h = rw (lt-leb 1 f (omega arith)) (go (is_file file))
  where
    go : (t : Bool) → both t false ≡ false
    go true = refl
    go false = refl

pub field_known : (file f n : ℕ) → n ≡ fields_of file → 1 ≤ f → leb f n ≡ has_field file f
unfolding has_field
field_known file f n e h = rw e (either (leb f (fields_of file)) (λ k. k ∙ sym (has_field_lem file f h (leb-true f (fields_of file) k))) (λ k. rw (k, le-leb 1 f h) (go (is_file file))))
  where
    go : (t : Bool) → false ≡ both t false
    go true = refl
    go false = refl

-- what the call comes back with and leaves in the buffer, in each of its four cases
module _ (file f : ℕ) (t : Text) (d : List ℕ) (place : ℕ) where
  pub when_no_field : has_field file f ≡ false → (refused 20 ≡ written_of file f t (length d) place) × (d ≡ buffer_of file f t d place)
  unfolding written_of buffer_of
  when_no_field p = (rw p, rw p)

  pub when_not_permitted : has_field file f ≡ true → permitted_text t ≡ false → (refused 21 ≡ written_of file f t (length d) place) × (d ≡ buffer_of file f t d place)
  unfolding written_of buffer_of
  when_not_permitted p q = (rw (p, q), rw (p, q))

  pub when_no_room : has_field file f ≡ true → permitted_text t ≡ true → length d < place + length (field_bytes file f t)
      → (refused 22 ≡ written_of file f t (length d) place) × (d ≡ buffer_of file f t d place)
  unfolding written_of buffer_of
  when_no_room p q r = let e = lt-leb (place + length (field_bytes file f t)) (length d) r in (rw (p, q, e), rw (p, q, e))

  pub when_laid : has_field file f ≡ true → permitted_text t ≡ true → place + length (field_bytes file f t) ≤ length d
      → (answered ((place + length (field_bytes file f t)) ∷ []) ≡ written_of file f t (length d) place) × (splice d place (field_bytes file f t) ≡ buffer_of file f t d place)
  unfolding written_of buffer_of
  when_laid p q r = let e = le-leb (place + length (field_bytes file f t)) (length d) r in (rw (p, q, e), rw (p, q, e))

-- the size that the code adds up is that of the field's bytes
pub laid_size : (file f : ℕ) (t : Text) (n m : ℕ) → n ≡ fields_of file → m ≡ length (quote ∷ quote ∷ ending (eqb f n)) → length t + m ≡ length (field_bytes file f t)
laid_size file f t n m e k = rw (k, e) (sym (field_size (eqb f (fields_of file)) t))

-- a field laid at the front of the part that was lent from the place on is laid there in the whole
pub part_laid : (file f : ℕ) (t : Text) (n : ℕ) (d : List ℕ) (place : ℕ) (x : List ℕ) → n ≡ fields_of file → place ≤ length d
    → x ≡ splice (mid_of place (length d - place) d) 0 (written_field (eqb f n) t) → put_mid place (length d - place) d x ≡ splice d place (field_bytes file f t)
part_laid file f t n d place x e h k = rw (k, e) (laid_part d place (field_bytes file f t) h)
