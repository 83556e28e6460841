-- Written again field by field, a list of permitted records gives its writing. Each call is answered, since its field is one of the
-- file's, its text is permitted and there is room; what two calls lay stands side by side, and so is one lay of both.
use mathlib.Core.Path.{◌≡◌, refl, ap, ◌∙◌}
use mathlib.Core.Bool.{Bool, true, false}
use mathlib.Core.List.{List, [], ◌∷◌, ◌++◌}
use Prim.Native.Nat.{ℕ, suc, ◌+◌, ◌-◌, ◌≤◌, ◌<◌}
use native.Mathlib.Nat.{add_assoc, add-zero}
use native.Mathlib.Omega.{arith}
use lib.Dec.{eqb}
use lib.ListN.{length, get_or, length-append}
use borrow.Author.Tests.{eq-eqb, ne_eqb}
use Rattle.laws.specs.Splice.{splice, splice_none, splice_length, splice_then}
use Rattle.file.specs.Bytes.{permitted_text}
use Rattle.file.specs.Format.{Text, Fields, written_field, written_record, written, PermittedTexts, Permitted}
use Rattle.file.specs.Files.{fields_of}
use Rattle.file.specs.Rewriting.{Buffer, buffer, laid, place_in, write_field, write_fields, write_records, rewrite_fields, rewrite_records, field_in, SameTexts}
use Rattle.file.proofs.WriterLaws.{has_field_lem, when_laid}

-- nothing laid, and one lay after another
laid_none : (d : List ℕ) (place : ℕ) → buffer d place ≡ laid [] (buffer d place)
laid_none d place = rw (splice_none, add-zero)

laid_both : (d : List ℕ) (place : ℕ) (a b : List ℕ) → place + length a ≤ length d → laid b (laid a (buffer d place)) ≡ laid (a ++ b) (buffer d place)
laid_both d place a b h = rw (splice_then d place a b (place + length a) refl h, length-append, add_assoc)

-- a lay, and what goes on from it
laid_then : (go : Buffer → Buffer) (w : Buffer) (d : List ℕ) (place : ℕ) (a b : List ℕ) → w ≡ laid a (buffer d place)
    → ((x : List ℕ) (at : ℕ) → at + length b ≤ length x → go (buffer x at) ≡ laid b (buffer x at)) → place + length (a ++ b) ≤ length d
    → go w ≡ laid (a ++ b) (buffer d place)
laid_then go w d place a b e rest h =
    let k : place + (length a + length b) ≤ length d = simp length-append at h in
    let l = splice_length d place a (omega arith) in
    ap go e ∙ rest (splice d place a) (place + length a) (omega arith) ∙ laid_both d place a b (omega arith)

module _ (file : ℕ) where
  -- a field, a record, and a list of records
  field_again : (f : ℕ) (t : Text) (last : Bool) (d : List ℕ) (place : ℕ) → eqb f (fields_of file) ≡ last → 1 ≤ f → f ≤ fields_of file → permitted_text t ≡ true
      → place + length (written_field last t) ≤ length d → write_field file f t (buffer d place) ≡ laid (written_field last t) (buffer d place)
  unfolding write_field place_in
  field_again f t last d place e p q r h =
      let w = when_laid file f t d place (has_field_lem file f p q) r (rw e h) in
      rw (← w.0, ← w.1, e)

  fields_again : (f : ℕ) (ts : Fields) → 1 ≤ f → f + length ts ≡ suc (fields_of file) → PermittedTexts ts → (d : List ℕ) (place : ℕ)
      → place + length (written_record ts) ≤ length d → write_fields file f ts (buffer d place) ≡ laid (written_record ts) (buffer d place)
  unfolding write_fields written_record PermittedTexts
  fields_again f [] p q r d place h = laid_none d place
  fields_again f (t ∷ []) p q r d place h = field_again f t true d place (eq-eqb f (fields_of file) (omega arith)) p (omega arith) r.0 h
  fields_again f (t ∷ u ∷ ts) p q r d place h =
      let k : place + (length (written_field false t) + length (written_record (u ∷ ts))) ≤ length d = simp length-append at h in
      laid_then
      (write_fields file (suc f) (u ∷ ts))
      (write_field file f t (buffer d place))
      d
      place
      (written_field false t)
      (written_record (u ∷ ts))
      (field_again f t false d place (ne_eqb f (fields_of file) (λ e. omega arith)) p (omega arith) r.0 (omega arith))
      (fields_again (suc f) (u ∷ ts) (omega arith) (omega arith) r.1)
      h

  -- what is written again, from any place in any buffer with room, gives the same bytes there and leaves the rest alone; a number
  -- that no file has is no exception, since its records have no fields
  pub written_again : (rs : List Fields) → Permitted (fields_of file) rs → (d : List ℕ) (place : ℕ) → place + length (written rs) ≤ length d
      → write_records file rs (buffer d place) ≡ laid (written rs) (buffer d place)
  unfolding write_records written Permitted
  written_again [] p d place h = laid_none d place
  written_again (r ∷ rs) p d place h =
      let k : place + (length (written_record r) + length (written rs)) ≤ length d = simp length-append at h in
      laid_then
      (write_records file rs)
      (write_fields file 1 r (buffer d place))
      d
      place
      (written_record r)
      (written rs)
      (fields_again 1 r (omega arith) (omega (arith, p.0.0)) p.0.1 d place (omega arith))
      (written_again rs p.1)
      h

  -- texts that are given by their numbers: field by field, and record by record
  fields_given : (text : ℕ → Text) (f : ℕ) (ts : Fields) (w : Buffer) → ((i : ℕ) → i < length ts → text (f + i) ≡ get_or ts i [])
      → rewrite_fields file text (length ts) f w ≡ write_fields file f ts w
  unfolding rewrite_fields write_fields
  fields_given text f [] w g = refl
  fields_given text f (t ∷ ts) w g =
      let z : f + 0 ≡ f = omega arith in
      let e : text f ≡ t = rw z at (g 0 (omega arith)) in
      ap (λ (x : Text). rewrite_fields file text (length ts) (suc f) (write_field file f x w)) e
      ∙ fields_given text (suc f) ts (write_field file f t w) (λ i h. let s : suc f + i ≡ f + suc i = omega arith in rw s (g (suc i) (omega arith)))

  records_given : (text : ℕ → ℕ → Text) (r : ℕ) (rs : List Fields) (w : Buffer) → Permitted (fields_of file) rs
      → ((i j : ℕ) → i < length rs → j < fields_of file → text (r + i) (1 + j) ≡ get_or (get_or rs i []) j [])
      → rewrite_records file text (length rs) r w ≡ write_records file rs w
  unfolding rewrite_records write_records Permitted
  records_given text r [] w p g = refl
  records_given text r (x ∷ rs) w p g =
      let z : r + 0 ≡ r = omega arith in
      let n : length x ≡ fields_of file = p.0.0 in
      let e : rewrite_fields file (text r) (fields_of file) 1 w ≡ write_fields file 1 x w =
      rw (← n) (fields_given (text r) 1 x w (λ i h. rw z at (g 0 i (omega arith) (omega arith)))) in
      ap (rewrite_records file text (length rs) (suc r)) e
      ∙ records_given text (suc r) rs (write_fields file 1 x w) p.1 (λ i j h k. let s : suc r + i ≡ r + suc i = omega arith in rw s (g (suc i) j (omega arith) k))

  -- the same where the texts come from a function that gives those of the records, as the reader does
  pub written_again_by : (text : ℕ → ℕ → Text) (rs : List Fields) → Permitted (fields_of file) rs → SameTexts (fields_of file) text rs → (d : List ℕ) (place : ℕ)
      → place + length (written rs) ≤ length d → rewrite_records file text (length rs) 1 (buffer d place) ≡ laid (written rs) (buffer d place)
  written_again_by text rs p g d place h =
      records_given text 1 rs (buffer d place) p (λ i j l k. at i j (g (1 + i) (1 + j) (omega arith) (omega arith) (omega arith) (omega arith))) ∙ written_again rs p d place h
    where
      at : (i j : ℕ) → text (1 + i) (1 + j) ≡ field_in rs (1 + i) (1 + j) → text (1 + i) (1 + j) ≡ get_or (get_or rs i []) j []
      at i j e =
          let a : 1 + i - 1 ≡ i = omega arith in
          let b : 1 + j - 1 ≡ j = omega arith in
          rw (a, b) at e
