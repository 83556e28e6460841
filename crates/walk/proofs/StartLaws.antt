-- Where the texts of a record stand behind one another: each a quote, a comma and a quote behind the last. A text goes on to its closing
-- quote, so its end is where `goes` says.
use mathlib.Core.Path.{◌≡◌, refl, sym, ap, ◌∙◌}
use mathlib.Core.Bool.{Bool, true, false}
use mathlib.Core.List.{List, [], ◌∷◌, ◌++◌, append_assoc}
use Prim.Native.Nat.{ℕ, zero, suc, ◌+◌, ◌≤◌, ◌<◌}
use native.Mathlib.Numerals.{add-one}
use native.Mathlib.Omega.{arith}
use native.Mathlib.Decide.{ℕ_discrete}
use lib.ListN.{length, get_or, take, drop, set, length-append, length-drop, length-set}
use lib.Seq.{drop_at, take_at, drop-drop, take_all, drop-append-add, get_or-set_same, get_or-set_other}
use Rattle.file.specs.Bytes.{quote, permitted_text, goes}
use Rattle.file.specs.Fields.{closing}
use Rattle.file.specs.Format.{Fields, ending, written_field, written_record, PermittedTexts}
use Rattle.file.specs.Places.{opened}
use Rattle.walk.specs.Walk.{start_of}
use Rattle.file.proofs.ReadBack.{goes_text, size_field}

-- where text i starts, in a record that starts at `at`
abbrev pub text_start : ℕ → Fields → ℕ → ℕ
text_start at ts i = at + length (opened (take i ts)) + 1

pub start_first : (at : ℕ) (ts : Fields) → at + 1 ≡ text_start at ts 0
unfolding opened
start_first at ts = omega arith

-- one text further
size_next : (ts : Fields) (i : ℕ) → i < length ts → length (opened (take (suc i) ts)) ≡ length (opened (take i ts)) + length (get_or ts i []) + 3
unfolding opened
size_next [] i h = absurd (omega arith)
size_next (t ∷ ts) zero h = simp length-append (omega (arith, size_field false t))
size_next (t ∷ ts) (suc i) h = simp length-append (omega (arith, size_next ts i (omega arith)))

-- no text starts behind the record's end
size_most : (ts : Fields) (i : ℕ) → length (opened (take i ts)) ≤ length (opened ts)
unfolding opened
size_most [] zero = omega arith
size_most [] (suc i) = omega arith
size_most (t ∷ ts) zero = omega arith
size_most (t ∷ ts) (suc i) = simp length-append (omega (arith, size_most ts i))

-- what closes a record has two bytes more than what closes a field
pub size_record : (ts : Fields) → 1 ≤ length ts → length (written_record ts) ≡ length (opened ts) + 2
unfolding opened written_record
size_record [] h = absurd (omega arith)
size_record (t ∷ []) h = simp length-append (omega (arith, size_field true t, size_field false t))
size_record (t ∷ u ∷ ts) h =
    rw (length-append (written_field false t) (written_record (u ∷ ts)), length-append (written_field false t) (opened (u ∷ ts)))
    (omega (arith, size_record (u ∷ ts) (omega arith)))

pub permitted_at : (ts : Fields) (i : ℕ) → PermittedTexts ts → i < length ts → permitted_text (get_or ts i []) ≡ true
unfolding PermittedTexts
permitted_at [] i p h = absurd (omega arith)
permitted_at (t ∷ ts) zero p h = p.0
permitted_at (t ∷ ts) (suc i) p h = permitted_at ts i p.1 (omega arith)

-- behind its opening quote stands the text, and behind it what closes it
record Behind (ts : Fields) (i : ℕ) (rest : List ℕ) : Type 0 where
  last : Bool
  more : List ℕ
  text : drop (length (opened (take i ts)) + 1) (written_record ts ++ rest) ≡ get_or ts i [] ++ (closing last ++ more)

behind : (ts : Fields) (i : ℕ) (rest : List ℕ) → i < length ts → Behind ts i rest
unfolding opened written_record written_field
behind [] i rest h = absurd (omega arith)
behind (t ∷ []) zero rest h = record { last = true; more = rest; text = rw append_assoc }
behind (t ∷ []) (suc i) rest h = absurd (omega arith)
behind (t ∷ u ∷ ts) zero rest h = record { last = false; more = written_record (u ∷ ts) ++ rest; text = simp append_assoc }
behind (t ∷ u ∷ ts) (suc i) rest h =
    let b = behind (u ∷ ts) i rest (omega arith) in
    let f = written_field false t in
    let l : length (f ++ opened (take i (u ∷ ts))) + 1 ≡ length f + (length (opened (take i (u ∷ ts))) + 1) = simp length-append (omega arith) in
    record { last = b.last; more = b.more; text = rw (l, append_assoc f, drop-append-add f) b.text }

-- text i of a record that starts at `at` stands where it should, and what comes behind it is in the file
pub record TextHere (s : List ℕ) (at : ℕ) (r : Fields) (i : ℕ) : Type 0 where
  pub size : text_start at r i + length (get_or r i []) + 3 ≡ text_start at r (i + 1)
  pub ends : goes (drop (text_start at r i) s) ≡ length (get_or r i [])
  pub text : take (length (get_or r i [])) (drop (text_start at r i) s) ≡ get_or r i []
  pub more : List ℕ
  pub closed : drop (text_start at r i) s ≡ get_or r i [] ++ (quote ∷ more)

-- a record of permitted texts stands in s from `at` on, and the rest behind it
module _ (s : List ℕ) (at : ℕ) (r : Fields) (rest : List ℕ) (here : drop at s ≡ written_record r ++ rest) (some : 1 ≤ length r) where
  pub record_near : at + length (written_record r) ≤ length s
  record_near = omega (arith, length-drop at s, ap length here, length-append (written_record r) rest, size_record r some)

  pub place_near : (i : ℕ) → text_start at r i + 1 ≤ length s
  place_near i = omega (arith, record_near, size_record r some, size_most r i)

  pub past_record : (n : ℕ) → length r ≡ n → text_start at r n + 1 ≡ at + length (written_record r)
  past_record n e =
      let h : length r ≤ n = omega arith in
      rw (take_all n r h) (omega (arith, size_record r some))

  pub behind_record : drop (at + length (written_record r)) s ≡ rest
  behind_record = sym (drop-drop (length (written_record r)) at s) ∙ rw here (drop_at (written_record r) rest (length (written_record r)) refl)

  pub text_here : PermittedTexts r → (i : ℕ) → i < length r → TextHere s at r i
  text_here p i h =
      let t = get_or r i [] in
      let b = behind r i rest h in
      let a : at + length (opened (take i r)) + 1 ≡ at + (length (opened (take i r)) + 1) = omega arith in
      let d : drop (text_start at r i) s ≡ t ++ (closing b.last ++ b.more) =
      rw a (sym (drop-drop (length (opened (take i r)) + 1) at s) ∙ rw here b.text) in
      record {
        size = rw (add-one i) (omega (arith, size_next r i h));
        ends = rw d (goes_text t b.last b.more (permitted_at r i p h));
        text = rw d (take_at t (closing b.last ++ b.more) (length t) refl);
        more = ending b.last ++ b.more;
        closed = d;
      }

-- the places before i say where the texts of a record start, and those from i on are as they were
pub record Marked (at : ℕ) (r : Fields) (old places : List ℕ) (i : ℕ) : Type 0 where
  pub size : length places ≡ length old
  pub starts : (j : ℕ) → j < i → start_of places j ≡ text_start at r j
  pub kept : (j : ℕ) → i ≤ j → start_of places j ≡ start_of old j

pub mark_none : (at : ℕ) (r : Fields) (old : List ℕ) → Marked at r old old 0
mark_none at r old = record { size = refl; starts = λ j h. absurd (omega arith); kept = λ j h. refl }

pub mark_one : (at : ℕ) (r : Fields) (old places : List ℕ) (i start : ℕ) → Marked at r old places i → i < length old → start ≡ text_start at r i
    → Marked at r old (set places i start) (i + 1)
mark_one at r old places i start m h e =
    record {
      size = simp length-set m.size;
      starts = λ j k. here j k (ℕ_discrete j i);
      kept = λ j k. get_or-set_other places i j start 0 (λ (z : j ≡ i). omega arith) ∙ m.kept j (omega arith);
    }
  where
    here : (j : ℕ) → j < i + 1 → Dec (j ≡ i) → start_of (set places i start) j ≡ text_start at r j
    here j k (yes z) = rw z (get_or-set_same places i start 0 (omega (arith, m.size)) ∙ e)
    here j k (no z) = get_or-set_other places i j start 0 z ∙ m.starts j (omega arith)
