-- A legal file has as many LFs as records: the first LF from a record's start on is its last byte, and behind it starts the next, or the file ends.
use mathlib.Core.Path.{◌≡◌, sym, ap, ◌∙◌}
use mathlib.Core.List.{List, [], ◌∷◌, ◌++◌}
use Prim.Native.Nat.{ℕ, zero, suc, ◌+◌, ◌-◌, ◌≤◌, ◌<◌}
use native.Mathlib.Numerals.{add-one}
use native.Mathlib.Omega.{arith}
use lib.Dec.{eqb, ltb}
use lib.ListN.{length, get_or, take, drop, drop_of_length-le, length-drop, take-append-drop}
use lib.Seq.{drop-cons, drop-drop}
use borrow.Author.Tests.{eq-eqb, ne_eqb, ltb-true, ltb-false}
use Rattle.laws.specs.Tests.{either}
use Rattle.file.specs.Bytes.{LF}
use Rattle.file.specs.Records.{records_in}
use Rattle.walk.specs.Walk.{LegalFrom}
use Rattle.walk.proofs.WalkLaws.{none_left}
use Rattle.lines.specs.Lines.{lead, behind, Place}
use Rattle.lines.proofs.LineLaws.{place_start, next_at}
use Rattle.tally.specs.Feeds.{feeds}

-- `feeds` at a place, by the byte there
pub feeds_hit : (s : List ℕ) (i : ℕ) → i < length s → get_or s i 0 ≡ 10 → feeds (drop i s) ≡ 1 + feeds (drop (i + 1) s)
unfolding feeds
feeds_hit s i h e = rw (add-one, drop-cons s i 0, eq-eqb _ _ e) (omega arith)

pub feeds_miss : (s : List ℕ) (i : ℕ) → i < length s → (get_or s i 0 ≡ 10 → ⊥) → feeds (drop i s) ≡ feeds (drop (i + 1) s)
unfolding feeds
feeds_miss s i h e = rw (add-one, drop-cons s i 0, ne_eqb _ _ e)

pub feeds_end : (s : List ℕ) (i : ℕ) → length s ≤ i → feeds (drop i s) ≡ 0
unfolding feeds
feeds_end s i h = rw (drop_of_length-le s h)

-- no more LFs than bytes
pub feeds_most : (s : List ℕ) → feeds s ≤ length s
unfolding feeds
feeds_most [] = omega arith
feeds_most (b ∷ s) = let m = feeds_most s in either (eqb b LF) (λ t. rw t (omega arith)) (λ t. rw t (omega arith))

feeds_append : (a b : List ℕ) → feeds (a ++ b) ≡ feeds a + feeds b
unfolding feeds
feeds_append [] b = omega arith
feeds_append (x ∷ a) b = let e = feeds_append a b in either (eqb x LF) (λ t. rw t (omega arith)) (λ t. rw t e)

-- the LFs from a place on are those of a part and those behind it
pub feeds_part : (s : List ℕ) (at end : ℕ) → at ≤ end → feeds (drop at s) ≡ feeds (take (end - at) (drop at s)) + feeds (drop end s)
feeds_part s at end h =
    let e : at + (end - at) ≡ end = omega arith in
    let part = take (end - at) (drop at s) in
    ap feeds (sym (take-append-drop (end - at) (drop at s)))
    ∙ feeds_append part (drop (end - at) (drop at s))
    ∙ ap (λ (l : List ℕ). feeds part + feeds l) (drop-drop (end - at) at s ∙ rw e)

-- the first LF is one, and the others stand behind it
feeds_lead : (l : List ℕ) → lead l < length l → feeds l ≡ 1 + feeds (drop (lead l + 1) l)
unfolding feeds lead
feeds_lead [] h = absurd (omega arith)
feeds_lead (b ∷ l) h =
    let e : suc (lead l) + 1 ≡ suc (lead l + 1) = omega arith in
    either (eqb b LF) (λ t. rw t (omega arith)) (λ t. rw (t, e) (feeds_lead l (omega (arith, (rw t at h)))))

feeds_behind : (s : List ℕ) (at : ℕ) → behind s at ≤ length s → feeds (drop at s) ≡ 1 + feeds (drop (behind s at) s)
feeds_behind s at h =
    let e : at + (lead (drop at s) + 1) ≡ behind s at = omega arith in
    rw (drop-drop (lead (drop at s) + 1) at s, e) at (feeds_lead (drop at s) (omega (arith, length-drop at s)))

-- at the end none is left
none_there : (n : ℕ) (s : List ℕ) (at : ℕ) → length s ≤ at → length (records_in n (drop at s)) ≡ feeds (drop at s)
none_there n s at h = ap length (none_left n s at h) ∙ sym (feeds_end s at h)

-- from a place on, where at most k bytes are left
feeds_left : (n : ℕ) (s : List ℕ) (k at : ℕ) → length s ≤ at + k → Place n s at → length (records_in n (drop at s)) ≡ feeds (drop at s)
feeds_left n s zero at h p = none_there n s at (omega arith)
feeds_left n s (suc k) at h p =
    either (ltb at (length s))
    (λ t.
    let x = next_at n s at p (ltb-true at (length s) t) in
    ap length x.rest ∙ omega (arith, feeds_behind s at x.place.near, feeds_left n s k (behind s at) (omega arith) x.place))
    (λ t. none_there n s at (ltb-false at (length s) t))

pub feeds_records : (n : ℕ) (s : List ℕ) → LegalFrom n s 0 → length (records_in n s) ≡ feeds s
feeds_records n s h = feeds_left n s (length s) 0 (omega arith) (place_start n s h)
