-- Laws of a trip's stops one by one: the walk through them.
use mathlib.Core.Path.{◌≡◌, refl, sym, ap, ◌∙◌}
use mathlib.Core.Bool.{Bool, true, false}
use mathlib.Core.List.{List, [], ◌∷◌}
use Prim.Native.Nat.{ℕ, ◌+◌, ◌-◌, ◌≤◌, ◌<◌}
use native.Mathlib.Omega.{arith}
use lib.ListN.{length, drop, drop_of_length-le}
use lib.Seq.{drop-drop}
use Rattle.laws.specs.Tests.{pick, either}
use Rattle.file.specs.Files.{fields_of}
use Rattle.file.specs.Format.{Fields}
use Rattle.file.specs.Records.{records_in}
use Rattle.walk.specs.Walk.{Cuts, LegalFrom}
use Rattle.walk.proofs.WalkLaws.{count_left, left_most}
use Rattle.keys.specs.Keys.{of_trip, third, none}
use Rattle.keys.specs.KeyFiles.{PlaceIn}
use Rattle.keys.specs.Ranks.{record_at}
use Rattle.rules.specs.Texts.{texts}
use Rattle.trail.specs.Lists.{select, some, travel, backward}
use Rattle.trail.specs.Trail.{upward, begin, after, step_of, place_of}
use Rattle.trail.proofs.ListLaws.{length_travel}
use Rattle.trip.specs.Stops.{arrives, departs, timed}
use Rattle.track.specs.declared.Visit.{Visit}
use Rattle.course.specs.Course.{visit_of}
use Rattle.coded.specs.Left.{left_at}
use Rattle.coded.specs.Ready.{Ready}
use Rattle.coded.proofs.LeftLaws.{step_mine, left_start, left_done, left_next}
use Rattle.calling.specs.Calling.{travelled, goes_up, first_place}
use Rattle.calling.proofs.CallingLaws.{three_numbers}

-- THE WALK. Those that pass a test are no more than all.
select_few : {A : Type 0} (test : A → Bool) (l : List A) → length (select test l) ≤ length l
unfolding select
select_few test [] = omega arith
select_few test (a ∷ rest) =
    either (test a)
    (λ t. rw t (omega (arith, select_few test rest)))
    (λ t. rw t (omega (arith, select_few test rest)))

-- a trip's records in travel order are no more than the file's
travelled_few : (line trip : ℕ) (rs : List Fields) → length (travelled line trip rs) ≤ length rs
unfolding travelled
travelled_few line trip rs =
    omega (arith, length_travel (third 8) trip (select (of_trip 8 line trip) rs), select_few (of_trip 8 line trip) rs)

-- and these no more than its bytes
pub few_stops : (s : List ℕ) (line trip : ℕ) → LegalFrom (fields_of 8) s 0 → length (travelled line trip (records_in (fields_of 8) s)) ≤ length s
few_stops s line trip h =
    let n = fields_of 8 in
    let c : length (records_in n s) ≡ h.count = count_left n s 0 h in
    omega (arith, travelled_few line trip (records_in n s), c, left_most n s 0 h)

-- the trip's records upward, or backward
travel_order : (line trip : ℕ) (rs : List Fields)
    → travelled line trip rs ≡ pick (goes_up trip) (upward 8 line trip rs) (backward (upward 8 line trip rs))
unfolding travelled travel upward
travel_order line trip rs = refl

-- behind the first of what is left come the others; of none, none are left
drop_next : {A : Type 0} (a : A) (left rest all : List A) (i : ℕ) → left ≡ a ∷ rest → left ≡ drop i all → rest ≡ drop (i + 1) all
drop_next a left rest all i e d =
    let z : a ∷ rest ≡ drop i all = sym e ∙ d in
    ap (drop 1) z ∙ drop-drop 1 i all

drop_none : {A : Type 0} (all : List A) (i n : ℕ) → drop i all ≡ [] → i ≤ n → drop n all ≡ []
drop_none all i n e h =
    let z : i + (n - i) ≡ n = omega arith in
    rw z at (sym (drop-drop (n - i) i all)) ∙ ap (drop (n - i)) e ∙ drop_of_length-le [] {i = n - i} (omega arith)

-- where a walk stands: at one of the trip's records, or at the end
pub record On (s : List ℕ) (line trip at : ℕ) : Type 0 where
  pub place : PlaceIn 8 s at
  pub mine : at < length s → of_trip 8 line trip (record_at 8 s at) ≡ true

module _ (s order ways : List ℕ) (ready : Ready 8 s order ways) (line trip : ℕ) (l : line < none) (t : trip < none) where
  abbrev left : ℕ → List Fields
  left at = left_at 8 s (goes_up trip) line trip at

  abbrev mine : List Fields
  mine = travelled line trip (records_in (fields_of 8) s)

  -- where the walk begins, all are left
  pub walk_start : (at : ℕ) → at ≡ first_place s line trip → On s line trip at × (left at ≡ mine)
  unfolding first_place
  walk_start at e =
      let w = left_start 8 s order ways ready three_numbers line trip l t (goes_up trip) at e in
      let on : On s line trip at = record { place = w.0; mine = step_mine 8 s order ways ready three_numbers line trip l t (goes_up trip) (begin (goes_up trip)) at e } in
      (on, w.1 ∙ sym (travel_order line trip (records_in (fields_of 8) s)))

  -- at the end none is
  pub walk_done : (at : ℕ) → length s ≤ at → left at ≡ []
  walk_done at h = left_done 8 s order ways ready three_numbers line trip l t (goes_up trip) at h

  -- so what was counted is all
  pub count_end : (n at : ℕ) → n + length (left at) ≡ length mine → length s ≤ at → n ≡ length mine
  count_end n at e h = omega (arith, e, ap length (walk_done at h))

  -- and there is no nth
  pub nth_end : (i n at : ℕ) → left at ≡ drop i mine → i ≤ n → length s ≤ at → left at ≡ drop n mine
  nth_end i n at e k h = walk_done at h ∙ sym (drop_none mine i n (sym e ∙ walk_done at h) k)

  -- and none of them has a time
  pub timed_end : (at : ℕ) → length s ≤ at → some timed (left at) ≡ false
  unfolding some
  timed_end at h = rw (walk_done at h)

  -- a record comes
  module _ (at : ℕ) (h : at < length s) {old places : List ℕ} {end : ℕ} (cut : Cuts (fields_of 8) s at old places end) where
    module _ (next : ℕ) (e : next ≡ place_of s (step_of 8 (goes_up trip) line trip (after (goes_up trip) (third 8 (texts 8 s places))) (records_in (fields_of 8) s))) where
      pub walk_next : On s line trip next × (left at ≡ texts 8 s places ∷ left next)
      walk_next =
          let w = left_next 8 s order ways ready three_numbers line trip l t (goes_up trip) at h cut next e in
          let x = after (goes_up trip) (third 8 (texts 8 s places)) in
          (record { place = w.0; mine = step_mine 8 s order ways ready three_numbers line trip l t (goes_up trip) x next e }, w.1)

      -- fewer are left
      pub walk_less : length (left next) < length (left at)
      walk_less = omega (arith, ap length walk_next.1)

      -- it was counted
      pub count_next : (n : ℕ) → n + length (left at) ≡ length mine → n + 1 + length (left next) ≡ length mine
      count_next n d = omega (arith, d, ap length walk_next.1)

      pub nth_next : (i : ℕ) → left at ≡ drop i mine → left next ≡ drop (i + 1) mine
      nth_next i d = drop_next (texts 8 s places) (left at) (left next) mine i walk_next.1 d

      -- those behind it
      pub behind_next : drop 1 (left at) ≡ left next
      behind_next = ap (drop 1) walk_next.1

      -- it has no time
      pub timed_next : timed (texts 8 s places) ≡ false → some timed (left at) ≡ some timed (left next)
      unfolding some
      timed_next d = rw (walk_next.1, d)

    -- it has a time
    pub timed_here : timed (texts 8 s places) ≡ true → some timed (left at) ≡ true
    unfolding some
    timed_here d =
        let w = walk_next (place_of s (step_of 8 (goes_up trip) line trip (after (goes_up trip) (third 8 (texts 8 s places))) (records_in (fields_of 8) s))) refl in
        rw (w.1, d)

-- what a record says of its times
module _ (r : Fields) (v : Visit) (e : v ≡ visit_of r) where
  pub visit_arrives : v.arrives ≡ true → timed r ≡ true
  unfolding timed visit_of
  visit_arrives a =
      let z : arrives r ≡ true = ap (λ (w : Visit). w.arrives) (sym e) ∙ a in
      rw z

  pub visit_departs : v.departs ≡ true → timed r ≡ true
  unfolding timed visit_of
  visit_departs d =
      let z : departs r ≡ true = ap (λ (w : Visit). w.departs) (sym e) ∙ d in
      either (arrives r) (λ a. rw a) (λ a. rw (a, z))

  pub visit_none : v.arrives ≡ false → v.departs ≡ false → timed r ≡ false
  unfolding timed visit_of
  visit_none a d =
      let y : arrives r ≡ false = ap (λ (w : Visit). w.arrives) (sym e) ∙ a in
      let z : departs r ≡ false = ap (λ (w : Visit). w.departs) (sym e) ∙ d in
      rw (y, z)
