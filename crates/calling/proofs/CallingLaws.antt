-- The walk along a trip's Zasspoje records in travel order: what the pass has come to, and what is left, make up what it comes to in the end.
use mathlib.Core.Path.{◌≡◌, refl, sym, ap, ◌∙◌}
use mathlib.Core.Bool.{Bool, true}
use mathlib.Core.List.{List, [], ◌∷◌}
use Prim.Native.Nat.{ℕ, ◌%◌, ◌≤◌, ◌<◌, max}
use native.Mathlib.Omega.{arith}
use lib.Dec.{eqb, leb}
use lib.ListN.{length}
use borrow.Author.Tests.{leb-true, leb-false}
use Rattle.laws.specs.Tests.{pick, either}
use Rattle.file.specs.Files.{fields_of}
use Rattle.file.specs.Format.{Fields}
use Rattle.file.specs.Records.{records_in}
use Rattle.field.specs.Names.{kilometres}
use Rattle.field.specs.Values.{value}
use Rattle.walk.specs.Walk.{Cuts}
use Rattle.rules.specs.Texts.{texts}
use Rattle.keys.specs.Keys.{key_fields, key_table, of_trip, third, none}
use Rattle.keys.specs.KeyFiles.{PlaceIn}
use Rattle.keys.specs.Ranks.{record_at}
use Rattle.amiss.specs.Sound.{AllOfKind}
use Rattle.trail.specs.Lists.{select, rising, backward, travel}
use Rattle.trail.specs.Trail.{upward, begin, after, step_of, place_of}
use Rattle.trail.proofs.ListLaws.{All, all_select, all_rising}
use Rattle.trip.specs.Stops.{stops_fit}
use Rattle.track.specs.Track.{set_out, track_on, time_on, shrunk, length_on, course_ends}
use Rattle.track.specs.declared.Track.{Track}
use Rattle.track.specs.declared.Visit.{Visit}
use Rattle.course.specs.Course.{visit_of, track_behind, time_behind, length_behind}
use Rattle.course.proofs.TrackLaws.{AllTame, kinds_tame, course_is_stops}
use Rattle.coded.specs.Ready.{Ready}
use Rattle.calling.specs.Calling.{travelled, goes_up, first_place}
use Rattle.coded.specs.Left.{left_at}
use Rattle.coded.proofs.LeftLaws.{all_backward, step_mine, left_start, left_done, left_next}

-- Zasspoje's keys are three numbers
pub three_numbers : length (key_fields 8) ≡ 3
unfolding key_fields key_table
three_numbers = refl

-- the trip's records upward, or backward
travel_order : (line trip : ℕ) (rs : List Fields)
    → travelled line trip rs ≡ pick (goes_up trip) (upward 8 line trip rs) (backward (upward 8 line trip rs))
unfolding travelled travel upward
travel_order line trip rs = refl

-- THE KILOMETRES of records of their kinds.
abbrev Tame : Fields → Type 0
Tame r = value (kilometres r) < shrunk

tame_all : (rs : List Fields) → AllOfKind 8 rs → All Tame rs
unfolding All AllOfKind
tame_all [] k = tt
tame_all (r ∷ rs) k = (kinds_tame r k.0, tame_all rs k.1)

all_tame : (rs : List Fields) → All Tame rs → AllTame rs
unfolding All AllTame
all_tame [] h = tt
all_tame (r ∷ rs) h = (h.0, all_tame rs h.1)

-- so it is in travel order
travelled_tame : (line trip : ℕ) (rs : List Fields) → AllOfKind 8 rs → AllTame (travelled line trip rs)
unfolding travelled travel
travelled_tame line trip rs k =
    let up = rising (third 8) (select (of_trip 8 line trip) rs) in
    let a : All Tame up =
    all_rising (third 8) Tame (select (of_trip 8 line trip) rs) (all_select (of_trip 8 line trip) Tame rs (tame_all rs k)) in
    either (eqb (trip % 2) 1)
    (λ e. rw e (all_tame up a))
    (λ e. rw e (all_tame (backward up) (all_backward Tame up a)))

-- the pass stands at `at`; `near` is the latest place where it was
pub record Passing (s : List ℕ) (line trip near at : ℕ) (c : Track) (time len : ℕ) : Type 0 where
  pub place : PlaceIn 8 s at
  pub mine : at < length s → of_trip 8 line trip (record_at 8 s at) ≡ true
  pub last : PlaceIn 8 s near
  pub track : track_behind c (left_at 8 s (goes_up trip) line trip at) ≡ track_behind set_out (travelled line trip (records_in (fields_of 8) s))
  pub times : time_behind time (left_at 8 s (goes_up trip) line trip at) ≡ time_behind 0 (travelled line trip (records_in (fields_of 8) s))
  pub lengths : length_behind len (left_at 8 s (goes_up trip) line trip at) ≡ length_behind 0 (travelled line trip (records_in (fields_of 8) s))

module _ (s order ways : List ℕ) (ready : Ready 8 s order ways) (line trip : ℕ) (l : line < none) (t : trip < none) where
  -- at the start
  pub passing_start : (at : ℕ) (c : Track) → c ≡ set_out → at ≡ first_place s line trip → Passing s line trip at at c 0 0
  unfolding first_place
  passing_start at c z e =
      let w = left_start 8 s order ways ready three_numbers line trip l t (goes_up trip) at e in
      let d = w.1 ∙ sym (travel_order line trip (records_in (fields_of 8) s)) in
      record { place = w.0; mine = step_mine 8 s order ways ready three_numbers line trip l t (goes_up trip) (begin (goes_up trip)) at e; last = w.0; track = rw (z, d); times = rw d; lengths = rw d }

  module _ (near at : ℕ) (c : Track) (time len : ℕ) (w : Passing s line trip near at c time len) where
    -- a record comes
    module _ (h : at < length s) {old places : List ℕ} {end : ℕ} (cut : Cuts (fields_of 8) s at old places end) (next : ℕ)
        (e : next ≡ place_of s (step_of 8 (goes_up trip) line trip (after (goes_up trip) (third 8 (texts 8 s places))) (records_in (fields_of 8) s))) where
      onward_next : PlaceIn 8 s next
          × (left_at 8 s (goes_up trip) line trip at ≡ texts 8 s places ∷ left_at 8 s (goes_up trip) line trip next)
      onward_next = left_next 8 s order ways ready three_numbers line trip l t (goes_up trip) at h cut next e

      pub passing_next : (v : Visit) → v ≡ visit_of (texts 8 s places) → (k : Track) → k ≡ track_on c v → (m : ℕ) → m ≡ time_on time v
          → (n : ℕ) → n ≡ length_on len v → (far : ℕ) → far ≡ max near at → Passing s line trip far next k m n
      unfolding track_behind time_behind length_behind
      passing_next v ve k ke m me n ne far fe =
          let o = onward_next.1 in
          record {
            place = onward_next.0;
            mine = step_mine 8 s order ways ready three_numbers line trip l t (goes_up trip) (after (goes_up trip) (third 8 (texts 8 s places))) next e;
            last =
                rw fe
                (either (leb near at)
                (λ d. let l = leb-true near at d in let z : max near at ≡ at = omega arith in rw z w.place)
                (λ d. let l = leb-false near at d in let z : max near at ≡ near = omega arith in rw z w.last));
            track = rw (ke, ve) (rw o at w.track);
            times = rw (me, ve) (rw o at w.times);
            lengths = rw (ne, ve) (rw o at w.lengths);
          }

      -- and fewer are left
      pub passing_less : length (left_at 8 s (goes_up trip) line trip next) < length (left_at 8 s (goes_up trip) line trip at)
      passing_less = omega (arith, ap length onward_next.1)

    -- none is left
    pub passing_end : length s ≤ at → (fit : Bool) → fit ≡ course_ends c time len
        → fit ≡ stops_fit (travelled line trip (records_in (fields_of 8) s))
    unfolding track_behind time_behind length_behind
    passing_end h fit e =
        let rs = records_in (fields_of 8) s in
        let d = left_done 8 s order ways ready three_numbers line trip l t (goes_up trip) at h in
        let a : c ≡ track_behind set_out (travelled line trip rs) = rw d at w.track in
        let b : time ≡ time_behind 0 (travelled line trip rs) = rw d at w.times in
        let g : len ≡ length_behind 0 (travelled line trip rs) = rw d at w.lengths in
        e ∙ rw (a, b, g) (course_is_stops (travelled line trip rs) (travelled_tame line trip rs ready.kinds))
