-- A walk along a trip's records, by the place where it stands: what is left of them from there on, and how a step shortens it. These laws are
-- of any file whose keys are three numbers.
use mathlib.Core.Path.{◌≡◌, sym, ap, ◌∙◌}
use mathlib.Core.Bool.{Bool, true}
use mathlib.Core.List.{List, [], ◌∷◌, ◌++◌}
use Prim.Native.Nat.{ℕ, ◌+◌, ◌≤◌, ◌<◌}
use lib.Dec.{ltb}
use lib.ListN.{length}
use borrow.Author.Tests.{lt-ltb, le-ltb, ltb-true, ltb-false}
use Rattle.laws.specs.Tests.{pick, either}
use Rattle.file.specs.Files.{fields_of}
use Rattle.file.specs.Format.{Fields, written_record}
use Rattle.file.specs.Records.{records_in}
use Rattle.walk.specs.Walk.{Cuts, RecordAt}
use Rattle.walk.proofs.WalkLaws.{cut_first}
use Rattle.lines.proofs.LineLaws.{next_at, cut_next}
use Rattle.rules.specs.Texts.{texts, Kinded}
use Rattle.keys.specs.Keys.{key_fields, of_trip, third, none}
use Rattle.keys.specs.KeyFiles.{PlaceIn}
use Rattle.keys.specs.Ranks.{record_at}
use Rattle.keys.proofs.KeyFileLaws.{key_here}
use Rattle.amiss.proofs.RecordLaws.{cut_kinded}
use Rattle.trail.specs.Lists.{backward}
use Rattle.trail.specs.Trail.{upward, ahead, begin, after, step_of, place_of, Walks, Treads, Comes}
use Rattle.trail.proofs.ListLaws.{All}
use Rattle.trail.proofs.TrailLaws.{comes, ahead_begin}
use Rattle.coded.specs.Left.{left_at}
use Rattle.coded.specs.Ready.{Ready}

-- backward each keeps what it kept
module _ {A : Type 0} (keeps : A → Type 0) where
  all_append : (l m : List A) → All keeps l → All keeps m → All keeps (l ++ m)
  unfolding All
  all_append [] m h i = i
  all_append (a ∷ l) m h i = (h.0, all_append l m h.1 i)

  pub all_backward : (l : List A) → All keeps l → All keeps (backward l)
  unfolding All backward
  all_backward [] h = tt
  all_backward (a ∷ l) h = all_append (backward l) (a ∷ []) (all_backward l h.1) (h.0, tt)

-- one of the trip's records was cut: what a step from it knows
pub treads : (file : ℕ) (s : List ℕ) (line trip at : ℕ) {old places : List ℕ} {next : ℕ} → PlaceIn file s at → at < length s
    → Cuts (fields_of file) s at old places next → of_trip file line trip (record_at file s at) ≡ true → Treads file s places line trip at next
treads file s line trip at {old} {places} {next} p h c m =
    let n = fields_of file in
    let first = cut_first n s at old places next c in
    let a = (cut_next n s at old places next p c).size in
    let b = (next_at n s at p h).size in
    record { within = h; here = first; past = a ∙ ap (λ (r : Fields). at + length (written_record r)) (sym first) ∙ sym b; mine = m }

-- a record of the file starts at `at`
module _ (file : ℕ) (s order ways : List ℕ) (ready : Ready file s order ways) (at : ℕ) (p : PlaceIn file s at) (h : at < length s) where
  -- it can be cut
  pub left_here : RecordAt (fields_of file) s at
  left_here = (key_here file s at ready.key p h).here

  -- where it was, its texts are of their kinds
  pub left_kinded : {old places : List ℕ} {next : ℕ} → Cuts (fields_of file) s at old places next → Kinded file s places
  left_kinded c = cut_kinded file s at ready.kinds p h c

module _ (file : ℕ) (s order ways : List ℕ) (ready : Ready file s order ways) (count : length (key_fields file) ≡ 3) where
  -- what a walk asks, where it stands
  pub walks : (at : ℕ) → PlaceIn file s at → Walks file s order ways at
  walks at p = record { size = ready.size; way = ready.way; place = p; three = count }

  module _ (line trip : ℕ) (l : line < none) (t : trip < none) (up : Bool) where
    abbrev all : List Fields
    all = records_in (fields_of file) s

    abbrev mine : List Fields
    mine = upward file line trip all

    abbrev left : ℕ → List Fields
    left at = left_at file s up line trip at

    -- where a step came to, all that were ahead are left
    left_ahead : (x at : ℕ) → Comes file s up line trip x at → left at ≡ ahead file up x mine
    unfolding left_at
    left_ahead x at c =
        either (ltb at (length s))
        (λ e. rw e (sym (c.more (ltb-true at (length s) e))))
        (λ e. rw e (sym (c.done (ltb-false at (length s) e))))

    -- a step comes to one of the trip's records, or to the end
    pub step_mine : (x at : ℕ) → at ≡ place_of s (step_of file up line trip x all) → at < length s → of_trip file line trip (record_at file s at) ≡ true
    step_mine x at e h = (comes file s line trip ready.key count ready.once l t up x at e).mine h

    -- where the walk begins, all the trip's records are left
    pub left_start : (at : ℕ) → at ≡ place_of s (step_of file up line trip (begin up) all)
        → PlaceIn file s at × (left at ≡ pick up mine (backward mine))
    left_start at e =
        let c = comes file s line trip ready.key count ready.once l t up (begin up) at e in
        (c.place, left_ahead (begin up) at c ∙ ahead_begin file line trip all ready.key.keys up)

    -- at the end of the file none is
    pub left_done : (at : ℕ) → length s ≤ at → left at ≡ []
    unfolding left_at
    left_done at h = rw (le-ltb at (length s) h)

    -- the record where the walk stands was cut: it is the first of what is left, and behind it is what is left where the next step comes to
    pub left_next : (at : ℕ) → at < length s → {old places : List ℕ} {end : ℕ} → Cuts (fields_of file) s at old places end → (next : ℕ)
        → next ≡ place_of s (step_of file up line trip (after up (third file (texts file s places))) all)
        → PlaceIn file s next × (left at ≡ texts file s places ∷ left next)
    unfolding left_at
    left_next at h {old} {places} {end} c next e =
        let r = texts file s places in
        let x = after up (third file r) in
        let w = comes file s line trip ready.key count ready.once l t up x next e in
        let first : record_at file s at ≡ r = cut_first (fields_of file) s at _ _ _ c in
        let here : left at ≡ r ∷ ahead file up x mine = rw (lt-ltb at (length s) h, first) in
        (w.place, here ∙ ap (λ (rs : List Fields). r ∷ rs) (sym (left_ahead x next w)))
