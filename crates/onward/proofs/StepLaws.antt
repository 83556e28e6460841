-- A record that is read field by field: one more field, and what the places say then of each text.
use mathlib.Core.Path.{◌≡◌, sym, ap, ◌∙◌}
use mathlib.Core.Bool.{true}
use mathlib.Core.List.{List, ◌∷◌, ◌++◌}
use Prim.Native.Nat.{ℕ, ◌+◌, ◌-◌, ◌≤◌, ◌<◌}
use native.Mathlib.Omega.{arith}
use native.Mathlib.Decide.{ℕ_discrete}
use lib.ListN.{length, drop, set, length-set, take-append-drop}
use lib.Seq.{drop-drop, get_or-set_same, get_or-set_other}
use Rattle.file.specs.Bytes.{quote, starts}
use Rattle.walk.specs.Walk.{start_of}
use Rattle.extent.specs.Extent.{between}
use Rattle.extent.proofs.TextLaws.{starts_cons}
use Rattle.onward.specs.Onward.{FieldTo, follower, TextAt, Due}

-- a byte that stands at a place is the first from there on
pub starts_bytes : (b : ℕ) (s : List ℕ) (at : ℕ) → starts b (drop at s) ≡ true → drop at s ≡ b ∷ drop (at + 1) s
starts_bytes b s at h = starts_cons b (drop at s) h ∙ ap (λ (x : List ℕ). b ∷ x) (drop-drop 1 at s)

-- a field that was read and closed, as the places say it
text_at : (file f : ℕ) (s : List ℕ) (at end : ℕ) → FieldTo file f s at end → starts quote (drop end s) ≡ true → end < length s → TextAt file f s (at + 1) (end + 3)
text_at file f s at end h shut l =
    let x : end + 3 - 3 ≡ end = omega arith in
    let y : end + 3 - 2 ≡ end + 1 = omega arith in
    let z : at + 1 - 1 ≡ at = omega arith in
    let t = between s (at + 1) end in
    let u = h.text.order in
    let b : drop (end - (at + 1)) (drop (at + 1) s) ≡ drop end s = let k : at + 1 + (end - (at + 1)) ≡ end = omega arith in rw (drop-drop, k) in
    let e : drop (at + 1) s ≡ t ++ quote ∷ drop (end + 1) s = sym (take-append-drop (end - (at + 1)) (drop (at + 1) s)) ∙ ap (λ (l : List ℕ). t ++ l) (b ∙ starts_bytes quote s end shut) in
    record {
      order = omega arith;
      near = omega arith;
      bytes = rw (x, y, z) (starts_bytes quote s at h.opened ∙ ap (λ (l : List ℕ). quote ∷ l) e);
      fits = rw x h.text.fits;
      kind = rw x h.text.is;
    }

-- one more field, due at `at`, whose text ends at `end`, and what follows it
module _ (file n : ℕ) (s : List ℕ) (start : ℕ) (places : List ℕ) (f at : ℕ) (d : Due file n s start places f at) (some : f < n) (end : ℕ) (h : FieldTo file (f + 1) s at end)
    (shut : starts quote (drop end s) ≡ true) (m : starts (follower (f + 1) n) (drop (end + 1) s) ≡ true) (within : end + 1 < length s) where
  abbrev more : List ℕ
  more = set places (f + 1) (end + 3)

  same : (j : ℕ) → j ≤ f → start_of more j ≡ start_of places j
  same j l = get_or-set_other places (f + 1) j (end + 3) 0 (λ (z : j ≡ f + 1). omega arith)

  new_mark : start_of more (f + 1) ≡ end + 3
  new_mark = get_or-set_same places (f + 1) (end + 3) 0 (omega (arith, d.come.room, d.few))

  more_fields : (j : ℕ) → j < f + 1 → Dec (j ≡ f) → TextAt file (j + 1) s (start_of more j) (start_of more (j + 1))
  more_fields j l (yes z) = rw (z, new_mark, same f (omega arith), d.here) (text_at file (f + 1) s at end h shut (omega arith))
  more_fields j l (no z) = rw (same j (omega arith), same (j + 1) (omega arith)) (d.come.fields j (omega arith))

  more_marks : (j : ℕ) → j < f + 1 → Dec (j ≡ f) → starts (follower (j + 1) n) (drop (start_of more (j + 1) - 2) s) ≡ true
  more_marks j l (yes z) = let y : end + 3 - 2 ≡ end + 1 = omega arith in rw (z, new_mark, y) m
  more_marks j l (no z) = rw (same (j + 1) (omega arith)) (d.come.marks j (omega arith))

  pub due_next : Due file n s start more (f + 1) (end + 2)
  due_next =
      record {
        come =
            record {
              room = simp length-set d.come.room;
              first = same 0 (omega arith) ∙ d.come.first;
              fields = λ j l. more_fields j l (ℕ_discrete j f);
              marks = λ j l. more_marks j l (ℕ_discrete j f);
            };
        here = new_mark ∙ omega arith;
        from = omega (arith, d.from, h.text.order);
        near = omega arith;
        few = d.few;
      }
