-- The walk along a trip's time codes: what is left of them at each place, and what the lists and the marks come to.
use mathlib.Core.Path.{◌≡◌, refl, sym, ap, ◌∙◌}
use mathlib.Core.Bool.{Bool, true, false, not}
use mathlib.Core.List.{List, [], ◌∷◌, ◌++◌}
use Prim.Native.Nat.{ℕ, ◌+◌, ◌≤◌, ◌<◌}
use native.Mathlib.Omega.{arith}
use lib.Dec.{eqb, ltb}
use lib.ListN.{length, drop, set, length-set}
use borrow.Author.Tests.{eq-eqb, ne_eqb, lt-ltb, le-ltb, ltb-true, ltb-false}
use Rattle.laws.specs.Tests.{pick, one_of, either}
use Rattle.file.specs.Files.{fields_of, field_counts}
use Rattle.file.specs.Format.{Fields}
use Rattle.file.specs.Records.{records_in}
use Rattle.field.specs.Names.{time_codes_file, mark}
use Rattle.field.specs.Rules.{meets}
use Rattle.field.specs.Values.{value}
use Rattle.walk.specs.Walk.{RecordAt, Cuts}
use Rattle.walk.proofs.WalkLaws.{cut_first}
use Rattle.lines.proofs.LineLaws.{next_at}
use Rattle.keys.specs.Keys.{key_fields, key_table, of_trip, third, none}
use Rattle.keys.specs.KeyFiles.{PlaceIn}
use Rattle.keys.specs.Ranks.{record_at}
use Rattle.keys.proofs.KeyFileLaws.{key_here}
use Rattle.rules.specs.Texts.{texts, Kinded}
use Rattle.amiss.proofs.RecordLaws.{cut_kinded}
use Rattle.coded.specs.Ready.{Ready}
use Rattle.coded.proofs.LeftLaws.{treads, step_mine}
use Rattle.trail.specs.Trail.{upward, ahead, step_of, place_of, Walks, Treads}
use Rattle.trail.proofs.ListLaws.{All, all_select, all_rising}
use Rattle.trail.proofs.TrailLaws.{ahead_begin, comes}
use Rattle.trip.specs.Days.{type_of, holds_day}
use Rattle.codes.specs.Seen.{seen_behind, held_behind, first_mark, differs_from, marks_differ, AllMeet}

with_none : (t : Bool) → t ≡ one_of t false
with_none true = refl
with_none false = refl

-- THE MARKS.
-- one more time code comes
module _ (first : ℕ) (differ : Bool) (r : Fields) where
  abbrev Marked : ℕ → Bool → Type 0
  Marked f d = (f ≡ first_mark first r) × (d ≡ one_of differ (differs_from first r))

  -- it has no type
  pub mark_none : type_of r ≡ 0 → Marked first differ
  unfolding first_mark differs_from
  mark_none e =
      either (eqb first 0)
      (λ t. rw (eq-eqb (type_of r) 0 e, t) (refl, with_none differ))
      (λ t. rw (eq-eqb (type_of r) 0 e, t) (refl, with_none differ))

  module _ (n : type_of r ≡ 0 → ⊥) (found : ℕ) (e : found ≡ value (mark r)) where
    -- it is the first that has one
    pub mark_first : first ≡ 0 → Marked found differ
    unfolding first_mark differs_from
    mark_first z = rw (ne_eqb (type_of r) 0 n, eq-eqb first 0 z) (e, with_none differ)

    -- it comes behind the first, and bears its mark or another
    pub mark_next : (first ≡ 0 → ⊥) → Marked first (one_of differ (not (eqb found first)))
    unfolding first_mark differs_from
    mark_next z = rw (ne_eqb (type_of r) 0 n, ne_eqb first 0 z, e) (refl, refl)

-- THE WALK.
-- the trip's time codes, by rising number
abbrev pub codes_in : List ℕ → ℕ → ℕ → List Fields
codes_in s line trip = upward time_codes_file line trip (records_in (fields_of time_codes_file) s)

-- those that are left where the walk stands at `at`
pub left_at : List ℕ → ℕ → ℕ → ℕ → List Fields
left_at s line trip at =
    pick (ltb at (length s))
    (record_at time_codes_file s at ∷ ahead time_codes_file true (third time_codes_file (record_at time_codes_file s at) + 1) (codes_in s line trip))
    []

-- a key of Caskody is three numbers
three : length (key_fields time_codes_file) ≡ 3
unfolding key_fields key_table
three = refl

-- of records that all meet their rules, the last ones do, and the first does
meet_tail : (file : ℕ) (a b : List Fields) → AllMeet file (a ++ b) → AllMeet file b
unfolding AllMeet
meet_tail file [] b h = h
meet_tail file (r ∷ a) b h = meet_tail file a b h.1

meet_head : (file : ℕ) (r : Fields) (rs : List Fields) → AllMeet file (r ∷ rs) → meets file r ≡ true
unfolding AllMeet
meet_head file r rs h = h.0

meet_there : (file : ℕ) (s : List ℕ) (at : ℕ) → AllMeet file (records_in (fields_of file) s) → PlaceIn file s at → at < length s
    → meets file (record_at file s at) ≡ true
meet_there file s at m p h =
    let w = (next_at (fields_of file) s at p h).rest in
    meet_head file _ _ (rw w at (meet_tail file p.past (records_in (fields_of file) (drop at s)) (rw p.whole at m)))

-- the time codes of a trip meet theirs
all_meets : (file : ℕ) (rs : List Fields) → AllMeet file rs → All (λ r. meets file r ≡ true) rs
unfolding AllMeet All
all_meets file [] h = tt
all_meets file (r ∷ rs) h = (h.0, all_meets file rs h.1)

meets_all : (file : ℕ) (rs : List Fields) → All (λ r. meets file r ≡ true) rs → AllMeet file rs
unfolding AllMeet All
meets_all file [] h = tt
meets_all file (r ∷ rs) h = (h.0, meets_all file rs h.1)

module _ (s order ways : List ℕ) (ready : Ready time_codes_file s order ways) where
  pub codes_meet : (line trip : ℕ) → AllMeet time_codes_file (codes_in s line trip)
  unfolding upward
  codes_meet line trip =
      meets_all time_codes_file _ (all_rising _ (λ r. meets time_codes_file r ≡ true) _ (all_select _ (λ r. meets time_codes_file r ≡ true) _ (all_meets time_codes_file _ ready.rules)))

  -- from a place on, the walk may go on
  pub walks_at : (at : ℕ) → PlaceIn time_codes_file s at → Walks time_codes_file s order ways at
  walks_at at p = record { size = ready.size; way = ready.way; place = p; three = three }

  module _ (line trip : ℕ) (l : line < none) (t : trip < none) where
    -- where a step comes to, those are left that were ahead
    left_comes : (x at : ℕ) → at ≡ place_of s (step_of time_codes_file true line trip x (records_in (fields_of time_codes_file) s))
        → PlaceIn time_codes_file s at × (ahead time_codes_file true x (codes_in s line trip) ≡ left_at s line trip at)
    unfolding left_at
    left_comes x at e =
        let c = comes time_codes_file s line trip ready.key three ready.once l t true x at e in (
          c.place,
          either (ltb at (length s))
              (λ h. rw h (c.more (ltb-true at (length s) h)))
              (λ h. rw h (c.done (ltb-false at (length s) h))),
        )

    -- at first all are
    pub left_start : (at : ℕ) → at ≡ place_of s (step_of time_codes_file true line trip 0 (records_in (fields_of time_codes_file) s))
        → PlaceIn time_codes_file s at × (left_at s line trip at ≡ codes_in s line trip)
    left_start at e =
        let c = left_comes 0 at e in
        (c.0, sym c.1 ∙ ahead_begin time_codes_file line trip (records_in (fields_of time_codes_file) s) ready.key.keys true)

    -- at the end none is
    pub left_end : (at : ℕ) → length s ≤ at → left_at s line trip at ≡ []
    unfolding left_at
    left_end at h = rw (le-ltb at (length s) h)

    module _ (at : ℕ) (p : PlaceIn time_codes_file s at) (h : at < length s) where
      pub record_there : RecordAt 8 s at
      unfolding fields_of field_counts
      record_there = (key_here time_codes_file s at ready.key p h).here

      module _ {old places : List ℕ} {end : ℕ} (cut : Cuts 8 s at old places end) where
        -- the record that was cut
        pub cut_kinds : Kinded time_codes_file s places
        unfolding fields_of field_counts
        cut_kinds = cut_kinded time_codes_file s at ready.kinds p h cut

        cut_there : record_at time_codes_file s at ≡ texts time_codes_file s places
        unfolding fields_of field_counts
        cut_there = cut_first 8 s at old places end cut

        pub cut_meets : meets time_codes_file (texts time_codes_file s places) ≡ true
        cut_meets = sym (ap (meets time_codes_file) cut_there) ∙ meet_there time_codes_file s at ready.rules p h

        pub cut_treads : of_trip time_codes_file line trip (record_at time_codes_file s at) ≡ true → Treads time_codes_file s places line trip at end
        unfolding fields_of field_counts
        cut_treads m = treads time_codes_file s line trip at p h cut m

        left_here : left_at s line trip at ≡ texts time_codes_file s places ∷ ahead time_codes_file true (third time_codes_file (texts time_codes_file s places) + 1) (codes_in s line trip)
        unfolding left_at
        left_here = rw (lt-ltb at (length s) h, cut_there)

        -- is the first that is left, and the others are left at the next place
        pub left_turn : (next : ℕ)
            → next ≡ place_of s (step_of time_codes_file true line trip (third time_codes_file (texts time_codes_file s places) + 1) (records_in (fields_of time_codes_file) s))
            → PlaceIn time_codes_file s next × (left_at s line trip at ≡ texts time_codes_file s places ∷ left_at s line trip next)
        left_turn next e =
            let c = left_comes (third time_codes_file (texts time_codes_file s places) + 1) next e in
            (c.0, left_here ∙ ap (λ (rs : List Fields). texts time_codes_file s places ∷ rs) c.1)

-- THE LISTS.
-- the list behind one record, which may hold day d
abbrev pub held_on : ℕ → List ℕ → Fields → List ℕ
held_on d held r = pick (holds_day d r) (set held (type_of r) 1) held

pub held_left : (d : ℕ) (held : List ℕ) (r : Fields) → holds_day d r ≡ false → held ≡ held_on d held r
held_left d held r e = rw e

pub held_marked : (d : ℕ) (held : List ℕ) (r : Fields) → holds_day d r ≡ true → (k : ℕ) → k ≡ type_of r → set held k 1 ≡ held_on d held r
held_marked d held r e k a = rw (e, a)

held_size : (d : ℕ) (held : List ℕ) (r : Fields) → length (held_on d held r) ≡ length held
held_size d held r = either (holds_day d r) (λ t. rw t (length-set held (type_of r) 1)) (λ t. rw t)

-- a time code comes, the first of those that are left
module _ (left : List Fields) (r : Fields) (rest : List Fields) (e : left ≡ r ∷ rest) where
  seen_step : (seen : List ℕ) (k : ℕ) → k ≡ type_of r → seen_behind (set seen k 1) rest ≡ seen_behind seen left
  unfolding seen_behind
  seen_step seen k a = rw (e, a)

  marks_step : (first : ℕ) (differ : Bool) (f : ℕ) (g : Bool) → f ≡ first_mark first r → g ≡ one_of differ (differs_from first r)
      → marks_differ f g rest ≡ marks_differ first differ left
  unfolding marks_differ
  marks_step first differ f g a b = rw (e, a, b)

  held_step : (d : ℕ) (held : List ℕ) → held_behind d (held_on d held r) rest ≡ held_behind d held left
  unfolding held_behind
  held_step d held = rw e

-- the walk stands at `at`, and `near` is where it stood: what the list and the marks come to behind those that are left is what they come to
-- behind all
pub record Typing (s : List ℕ) (line trip : ℕ) (old seen : List ℕ) (first : ℕ) (differ : Bool) (near at : ℕ) : Type 0 where
  pub place : PlaceIn time_codes_file s at
  pub mine : at < length s → of_trip time_codes_file line trip (record_at time_codes_file s at) ≡ true
  pub stood : PlaceIn time_codes_file s near
  pub size : length seen ≡ length old
  pub types : seen_behind seen (left_at s line trip at) ≡ seen_behind old (codes_in s line trip)
  pub marks : marks_differ first differ (left_at s line trip at) ≡ marks_differ 0 false (codes_in s line trip)

-- the same of two lists, of all of them and of those that hold day d
pub record Holding (s : List ℕ) (line trip d : ℕ) (was seen old held : List ℕ) (at : ℕ) : Type 0 where
  pub place : PlaceIn time_codes_file s at
  pub mine : at < length s → of_trip time_codes_file line trip (record_at time_codes_file s at) ≡ true
  pub sizes : (length seen ≡ length was) × (length held ≡ length old)
  pub types : seen_behind seen (left_at s line trip at) ≡ seen_behind was (codes_in s line trip)
  pub holds : held_behind d held (left_at s line trip at) ≡ held_behind d old (codes_in s line trip)

module _ (s order ways : List ℕ) (ready : Ready time_codes_file s order ways) (line trip : ℕ) (l : line < none) (t : trip < none) where
  pub typing_start : (seen : List ℕ) (near at : ℕ) → PlaceIn time_codes_file s near
      → at ≡ place_of s (step_of time_codes_file true line trip 0 (records_in (fields_of time_codes_file) s))
      → Typing s line trip seen seen 0 false near at
  typing_start seen near at p e =
      let c = left_start s order ways ready line trip l t at e in record {
        place = c.0;
        mine = step_mine time_codes_file s order ways ready three line trip l t true 0 at e;
        stood = p;
        size = refl;
        types = ap (seen_behind seen) c.1;
        marks = ap (marks_differ 0 false) c.1;
      }

  pub holding_start : (d : ℕ) (seen held : List ℕ) (at : ℕ) → at ≡ place_of s (step_of time_codes_file true line trip 0 (records_in (fields_of time_codes_file) s))
      → Holding s line trip d seen seen held held at
  holding_start d seen held at e =
      let c = left_start s order ways ready line trip l t at e in record {
        place = c.0;
        mine = step_mine time_codes_file s order ways ready three line trip l t true 0 at e;
        sizes = (refl, refl);
        types = ap (seen_behind seen) c.1;
        holds = ap (held_behind d held) c.1;
      }

  -- one is left, and was cut
  module _ (at : ℕ) (h : at < length s) {was places : List ℕ} {end : ℕ} (cut : Cuts 8 s at was places end) (next : ℕ)
      (e : next ≡ place_of s (step_of time_codes_file true line trip (third time_codes_file (texts time_codes_file s places) + 1) (records_in (fields_of time_codes_file) s))) where
    pub left_less : PlaceIn time_codes_file s at → length (left_at s line trip next) < length (left_at s line trip at)
    left_less p = omega (arith, ap length (left_turn s order ways ready line trip l t at p h cut next e).1)

    pub typing_next : (old seen : List ℕ) (first : ℕ) (differ : Bool) (near : ℕ) → Typing s line trip old seen first differ near at
        → (k : ℕ) → k ≡ type_of (texts time_codes_file s places) → (f : ℕ) → f ≡ first_mark first (texts time_codes_file s places)
        → (g : Bool) → g ≡ one_of differ (differs_from first (texts time_codes_file s places))
        → Typing s line trip old (set seen k 1) f g at next
    typing_next old seen first differ near v k a f b g c =
        let w = left_turn s order ways ready line trip l t at v.place h cut next e in record {
          place = w.0;
          mine = step_mine time_codes_file s order ways ready three line trip l t true (third time_codes_file (texts time_codes_file s places) + 1) next e;
          stood = v.place;
          size = length-set seen k 1 ∙ v.size;
          types = seen_step _ _ _ w.1 seen k a ∙ v.types;
          marks = marks_step _ _ _ w.1 first differ f g b c ∙ v.marks;
        }

    pub holding_next : (d : ℕ) (was seen old held : List ℕ) → Holding s line trip d was seen old held at
        → (k : ℕ) → k ≡ type_of (texts time_codes_file s places) → (new : List ℕ) → new ≡ held_on d held (texts time_codes_file s places)
        → Holding s line trip d was (set seen k 1) old new next
    holding_next d was seen old held v k b new a =
        let r = texts time_codes_file s places in
        let w = left_turn s order ways ready line trip l t at v.place h cut next e in record {
          place = w.0;
          mine = step_mine time_codes_file s order ways ready three line trip l t true (third time_codes_file (texts time_codes_file s places) + 1) next e;
          sizes = (length-set seen k 1 ∙ v.sizes.0, ap length a ∙ held_size d held r ∙ v.sizes.1);
          types = seen_step _ _ _ w.1 seen k b ∙ v.types;
          holds = ap (λ (x : List ℕ). held_behind d x (left_at s line trip next)) a ∙ held_step _ r _ w.1 d held ∙ v.holds;
        }

  -- none is left
  pub typing_end : (old seen : List ℕ) (first : ℕ) (differ : Bool) (near at : ℕ) → Typing s line trip old seen first differ near at → length s ≤ at
      → (seen ≡ seen_behind old (codes_in s line trip)) × (differ ≡ marks_differ 0 false (codes_in s line trip))
  unfolding seen_behind marks_differ
  typing_end old seen first differ near at v h =
      let z = left_end s order ways ready line trip l t at h in
      (rw z at v.types, rw z at v.marks)

  pub holding_end : (d : ℕ) (was seen old held : List ℕ) (at : ℕ) → Holding s line trip d was seen old held at → length s ≤ at
      → (seen ≡ seen_behind was (codes_in s line trip)) × (held ≡ held_behind d old (codes_in s line trip))
  unfolding seen_behind held_behind
  holding_end d was seen old held at v h =
      let z = left_end s order ways ready line trip l t at h in
      (rw z at v.types, rw z at v.holds)
