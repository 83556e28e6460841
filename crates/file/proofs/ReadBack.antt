-- What is written is read: the reading of a list of permitted records comes to that list, each text where it stands.
-- A permitted text goes on exactly to its closing quote; so each field passes, and with it its record, and the next.
use mathlib.Core.Path.{◌≡◌, refl, sym, ◌∙◌}
use mathlib.Core.Bool.{Bool, true, false}
use mathlib.Core.List.{List, [], ◌∷◌, ◌++◌, append_assoc}
use Prim.Native.Nat.{ℕ, suc, ◌+◌, ◌-◌, ◌≤◌}
use native.Mathlib.Nat.{add-zero}
use native.Mathlib.Omega.{arith}
use lib.Dec.{eqb}
use lib.ListN.{length, drop, length-append}
use lib.Seq.{drop-append_seam, drop_at}
use borrow.Author.Tests.{eq-eqb, ne_eqb}
use Rattle.laws.specs.Tests.{both, both_left, both_right}
use Rattle.file.specs.Bytes.{quote, ends, goes_on, goes, permitted_text, matched}
use Rattle.file.specs.Format.{Text, Fields, ending, written_field, written_record, written, PermittedTexts, Permitted}
use Rattle.file.specs.Fields.{closing}
use Rattle.file.specs.Places.{field_places, places}
use Rattle.file.specs.Reading.{opening, State, state, is_last, run, Span, spans}
use Rattle.file.proofs.TextLaws.{goes_ends}
use Rattle.file.proofs.StepLaws.{Passed, goes_on_lem}
use Rattle.file.proofs.FieldLaws.{list_passed}

-- a text's last byte and its closing quote end no field
ends_before : (b : ℕ) (t c : List ℕ) → ends (b ∷ t) ≡ false → ends (b ∷ (t ++ quote ∷ c)) ≡ false
unfolding ends
ends_before b [] c h = go (eqb b quote)
  where
    go : (x : Bool) → both x false ≡ false
    go true = refl
    go false = refl
ends_before b (x ∷ t) c h = h

-- a permitted text goes on to its closing quote, and no further
pub goes_text : (t : Text) (last : Bool) (rest : List ℕ) → permitted_text t ≡ true → goes (t ++ (closing last ++ rest)) ≡ length t
unfolding permitted_text goes goes_on ends
goes_text [] true rest p = goes_ends quote (ending true ++ rest) refl
goes_text [] false rest p = goes_ends quote (ending false ++ rest) refl
goes_text (b ∷ t) last rest p =
    let g = goes_on_lem b t (both_left (goes_on (b ∷ t)) (permitted_text t) p) in
    let e = ends_before b t (ending last ++ rest) g.1 in
    rw (g.0, e, goes_text t last rest (both_right (goes_on (b ∷ t)) (permitted_text t) p))

matched_closing : (last : Bool) (rest : List ℕ) → matched (closing last) (closing last ++ rest) ≡ length (closing last)
unfolding matched
matched_closing true rest = refl
matched_closing false rest = refl

-- a field that was written is passed
pub field_read : (n f k at a : ℕ) (last : Bool) → is_last n f ≡ last → (t : Text) (rest : List ℕ) → permitted_text t ≡ true
    → Passed n f k (at + 1 + length t) (at + 1) last (state opening f k at a) (written_field last t ++ rest) rest
unfolding written_field
field_read n f k at a last h t rest p =
    let l = t ++ (closing last ++ rest) in
    let g = goes_text t last rest p in
    let d : drop (goes l) l ≡ closing last ++ rest = drop_at t (closing last ++ rest) (goes l) (sym g) in
    let m : matched (closing last) (drop (goes l) l) ≡ length (closing last) = rw d (matched_closing last rest) in
    let e : drop (length (closing last)) (drop (goes l) l) ≡ rest = rw d (drop-append_seam (closing last) rest) in
    rw append_assoc (rw (e, g) at (list_passed n f k at a last h l m))

pub size_field : (last : Bool) (t : Text) → length (written_field last t) ≡ 1 + length t + length (closing last)
unfolding written_field
size_field last t = simp length-append (omega arith)

-- a reading goes over these bytes to that state, and finishes those texts
pub record Over (n : ℕ) (from : State) (bytes rest : List ℕ) (to : State) (done : List Span) : Type 0 where
  pub runs : run n from (bytes ++ rest) ≡ run n to rest
  pub ends : spans n from (bytes ++ rest) ≡ done ++ spans n to rest

past : (at : ℕ) (last : Bool) (t : Text) → at + 1 + length t + length (closing last) ≡ at + length (written_field last t)
past at last t = omega (arith, size_field last t)

size : (at : ℕ) (t : Text) → at + 1 + length t - (at + 1) ≡ length t
size at t = omega arith

-- the fields of a record that are still due
pub record_read : (n k : ℕ) (ts : Fields) (f at a : ℕ) (rest : List ℕ) → length ts + f ≡ n → 1 ≤ length ts → PermittedTexts ts
    → Over n (state opening f k at a) (written_record ts) rest (state opening 0 (k + 1) (at + length (written_record ts)) 0) (field_places at ts)
unfolding written_record PermittedTexts field_places
record_read n k [] f at a rest e h p = absurd (omega arith)
record_read n k (t ∷ []) f at a rest e h p =
    let l : is_last n f ≡ true = eq-eqb (f + 1) n (omega arith) in
    let r = field_read n f k at a true l t rest p.0 in
    record { runs = r.runs ∙ rw (past at true t); ends = r.one ∙ rw (past at true t, size at t) }
record_read n k (t ∷ u ∷ ts) f at a rest e h p =
    let l : is_last n f ≡ false = ne_eqb (f + 1) n (λ x. omega arith) in
    let r = field_read n f k at a false l t (written_record (u ∷ ts) ++ rest) p.0 in
    let q = record_read n k (u ∷ ts) (f + 1) (at + length (written_field false t)) 0 rest (omega arith) (omega arith) p.1 in
    let w : at + length (written_field false t ++ written_record (u ∷ ts)) ≡ at + length (written_field false t) + length (written_record (u ∷ ts)) =
    simp length-append (omega arith) in
    record { runs = rw (append_assoc, w) (r.runs ∙ rw (past at false t) q.runs); ends = rw (append_assoc, w) (r.one ∙ rw (past at false t, size at t, q.ends)) }

-- all records
pub written_read : (n : ℕ) → 1 ≤ n → (rs : List Fields) (k at : ℕ) → Permitted n rs
    → Over n (state opening 0 k at 0) (written rs) [] (state opening 0 (k + length rs) (at + length (written rs)) 0) (places at rs)
unfolding written Permitted places
written_read n h [] k at p = record { runs = rw (add-zero k, add-zero at); ends = rw (add-zero k, add-zero at) }
written_read n h (r ∷ rs) k at p =
    let q = record_read n k r 0 at 0 (written rs ++ []) (omega (arith, p.0.0)) (omega (arith, p.0.0)) p.0.1 in
    let o = written_read n h rs (k + 1) (at + length (written_record r)) p.1 in
    let w : at + length (written_record r ++ written rs) ≡ at + length (written_record r) + length (written rs) = simp length-append (omega arith) in
    let c : k + suc (length rs) ≡ k + 1 + length rs = omega arith in
    record { runs = rw (append_assoc, w, c) (q.runs ∙ o.runs); ends = rw (append_assoc, w, c, append_assoc) (q.ends ∙ rw o.ends) }
