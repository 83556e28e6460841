-- Where a field stands in a writing: its place in the list of places, and that its text is what stands there.
use mathlib.Core.Path.{◌≡◌, refl, sym, ap, ◌∙◌}
use mathlib.Core.Bool.{true, false}
use mathlib.Core.List.{List, [], ◌∷◌, ◌++◌, append_assoc, append-nil}
use Prim.Native.Nat.{ℕ, zero, suc, ◌+◌, ◌-◌, ◌*◌, ◌≤◌, ◌<◌}
use native.Mathlib.Nat.{add-zero, zero-add}
use native.Mathlib.Omega.{arith}
use lib.ListN.{length, get_or, take, drop, length-append, get_or-append}
use lib.Seq.{drop_at, take_at, get_or-append-add, ext_get_or}
use Rattle.file.specs.Bytes.{quote}
use Rattle.file.specs.Format.{Fields, ending, written_field, written_record, written, Permitted}
use Rattle.file.specs.Places.{opened, before, place_of, field_at, field_places, places, Gives}
use Rattle.file.specs.Reading.{opening, State, state, fresh, run, Span, spans, outcome_in, outcome, reading}
use Rattle.file.specs.Answers.{span_of}
use Rattle.file.specs.declared.Outcome.TheVariants.{Whole}
use Rattle.file.proofs.ReadBack.{Over, written_read}

abbrev none : Span
none = record { start = 0; size = 0 }

abbrev span : ℕ → ℕ → Span
span a n = record { start = a; size = n }

pub size_fields : (at : ℕ) (ts : Fields) → length (field_places at ts) ≡ length ts
unfolding field_places
size_fields at [] = refl
size_fields at (t ∷ ts) = ap suc (size_fields (at + length (written_field false t)) ts)

field_place : (ts : Fields) (at f : ℕ) → f < length ts → get_or (field_places at ts) f none ≡ span (at + length (opened (take f ts)) + 1) (length (get_or ts f []))
unfolding field_places opened
field_place [] at f h = absurd (omega arith)
field_place (t ∷ ts) at zero h = rw add-zero
field_place (t ∷ ts) at (suc f) h =
    let w : at + length (written_field false t) + length (opened (take f ts)) + 1 ≡ at + length (written_field false t ++ opened (take f ts)) + 1 =
    simp length-append (omega arith) in
    field_place ts (at + length (written_field false t)) f (omega arith) ∙ ap (λ (x : ℕ). span x (length (get_or ts f []))) w

pub place_at : (n : ℕ) (rs : List Fields) (at r f : ℕ) → Permitted n rs → r < length rs → f < n
    → get_or (places at rs) (r * n + f) none ≡ span (at + length (before rs r f) + 1) (length (field_at rs r f))
unfolding Permitted places written
place_at n [] at r f p h g = absurd (omega arith)
place_at n (x ∷ rs) at zero f p h g =
    let i : 0 * n + f ≡ f = omega arith in
    let l : f < length x = omega (arith, p.0.0) in
    let m : f < length (field_places at x) = omega (arith, size_fields at x) in
    rw i (get_or-append (field_places at x) _ none f m ∙ field_place x at f l)
place_at n (x ∷ rs) at (suc r) f p h g =
    let i : suc r * n + f ≡ length (field_places at x) + (r * n + f) = omega (arith, size_fields at x, p.0.0) in
    let w : at + length (written_record x) + length (before rs r f) + 1 ≡ at + length (before (x ∷ rs) (suc r) f) + 1 =
    simp (append_assoc, length-append) (omega arith) in
    rw i (get_or-append-add (field_places at x) _ (r * n + f) none ∙ place_at n rs (at + length (written_record x)) r f p.1 (omega arith) g ∙ ap (λ (y : ℕ). span y (length (field_at rs r f))) w)

-- a text stands behind what is before it and its opening quote
record_stands : (ts : Fields) (f : ℕ) → f < length ts → (more : List ℕ) × (written_record ts ≡ opened (take f ts) ++ quote ∷ (get_or ts f [] ++ more))
unfolding written_record written_field opened
record_stands [] f h = absurd (omega arith)
record_stands (t ∷ []) zero h = (quote ∷ ending true, refl)
record_stands (t ∷ []) (suc f) h = absurd (omega arith)
record_stands (t ∷ u ∷ ts) zero h = ((quote ∷ ending false) ++ written_record (u ∷ ts), ap (λ (l : List ℕ). quote ∷ l) (append_assoc t (quote ∷ ending false) (written_record (u ∷ ts))))
record_stands (t ∷ u ∷ ts) (suc f) h =
    let r = record_stands (u ∷ ts) f (omega arith) in
    (r.0, ap (λ (l : List ℕ). written_field false t ++ l) r.1 ∙ sym (append_assoc (written_field false t) (opened (take f (u ∷ ts))) _))

stands : (rs : List Fields) (r f : ℕ) → r < length rs → f < length (get_or rs r []) → (more : List ℕ) × (written rs ≡ before rs r f ++ quote ∷ (field_at rs r f ++ more))
unfolding written
stands [] r f h g = absurd (omega arith)
stands (x ∷ rs) zero f h g =
    let s = record_stands x f g in
    (s.0 ++ written rs, rw s.1 (simp append_assoc))
stands (x ∷ rs) (suc r) f h g =
    let s = stands rs r f (omega arith) g in
    (s.0, rw s.1 (simp append_assoc))

behind_quote : (b t m : List ℕ) → take (length t) (drop (length b + 1) (b ++ quote ∷ (t ++ m))) ≡ t
behind_quote b t m =
    let l : length (b ++ quote ∷ []) ≡ length b + 1 = simp length-append (omega arith) in
    let e : b ++ quote ∷ (t ++ m) ≡ (b ++ quote ∷ []) ++ (t ++ m) = rw append_assoc in
    rw (e, drop_at (b ++ quote ∷ []) (t ++ m) (length b + 1) l, take_at t m (length t) refl)

permitted_shape : (n : ℕ) (rs : List Fields) → Permitted n rs → (r : ℕ) → r < length rs → length (get_or rs r []) ≡ n
unfolding Permitted
permitted_shape n [] p r h = absurd (omega arith)
permitted_shape n (x ∷ rs) p zero h = p.0.0
permitted_shape n (x ∷ rs) p (suc r) h = permitted_shape n rs p.1 r (omega arith)

-- the texts of a writing are as many as its fields
pub size_places : (n : ℕ) (rs : List Fields) (at : ℕ) → Permitted n rs → length (places at rs) ≡ length rs * n
unfolding Permitted places
size_places n [] at p = omega arith
size_places n (x ∷ rs) at p =
    length-append (field_places at x) (places (at + length (written_record x)) rs)
    ∙ omega (arith, size_fields at x, p.0.0, size_places n rs (at + length (written_record x)) p.1)

module _ (n : ℕ) (h : 1 ≤ n) (rs : List Fields) (p : Permitted n rs) where
  whole : Over n fresh (written rs) [] (state opening 0 (0 + length rs) (0 + length (written rs)) 0) (places 0 rs)
  whole = written_read n h rs 0 0 p

  pub read_count : reading n (written rs) ≡ Whole (length rs)
  unfolding run outcome_in
  read_count = ap (λ (st : State). outcome st) (rw append-nil at whole.runs) ∙ rw zero-add

  pub read_places : spans n fresh (written rs) ≡ places 0 rs
  unfolding spans
  read_places = (rw append-nil at whole.ends) ∙ rw append-nil

  read_place : (r f : ℕ) → r < length rs → f < n → span_of n (written rs) (r + 1) (f + 1) ≡ place_of rs r f
  unfolding span_of
  read_place r f i j =
      let a : (r + 1 - 1) * n + (f + 1 - 1) ≡ r * n + f = rw (back r, back f) in
      rw (a, read_places) (place_at n rs 0 r f p i j ∙ rw zero-add)
    where
      back : (x : ℕ) → x + 1 - 1 ≡ x
      back x = omega arith

  -- the reader gives a list of permitted records for its writing
  pub gives : Gives n (written rs) rs
  gives =
      record {
        count = read_count;
        shape = permitted_shape n rs p;
        place = read_place;
        text =
            λ r f i j.
            let s = stands rs r f i (omega (arith, permitted_shape n rs p r i)) in
            rw (read_place r f i j) (rw s.1 (behind_quote (before rs r f) (field_at rs r f) s.0));
      }

-- the reader gives one list at the most
pub given_once : (n : ℕ) (s : List ℕ) (rs qs : List Fields) → Gives n s rs → Gives n s qs → rs ≡ qs
given_once n s rs qs g h =
    let e : length rs ≡ length qs = same (sym g.count ∙ h.count) in
    ext_get_or [] rs qs e
    (λ r i.
    let j : r < length qs = omega arith in
    let x = g.shape r i in
    ext_get_or [] (get_or rs r []) (get_or qs r []) (x ∙ sym (h.shape r j))
    (λ f k. let m : f < n = omega arith in sym (g.text r f i m) ∙ h.text r f j m))
  where
    same : {a b : ℕ} → Whole a ≡ Whole b → a ≡ b
    same e = cc
