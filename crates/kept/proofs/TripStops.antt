-- Document 01's refusal 11 over the batch's records: the definition over a trip's Zasspoje records as a list in travel order says the same as the
-- statements over those records, wherever they stand.
use mathlib.Core.Path.{◌≡◌, refl, sym, ◌∙◌}
use mathlib.Core.Bool.{true, false}
use mathlib.Core.List.{List, []}
use mathlib.Core.Logic.{◌↔◌}
use Prim.Native.Nat.{ℕ, ◌<◌, ◌%◌}
use native.Mathlib.Omega.{arith}
use lib.Dec.{eqb, ltb}
use lib.ListN.{length, get_or}
use borrow.Author.Tests.{eqb-true, eq-eqb, ltb-true, ltb-false}
use Rattle.laws.specs.Tests.{both, either, both_left, both_right, both_true}
use Rattle.file.specs.Format.{Fields}
use Rattle.keys.specs.Keys.{key_table, key_fields, numbers, of_trip, third}
use Rattle.thirteen.specs.Batch.{Batch, records_of}
use Rattle.link.specs.Met.{Stands, Distinct, number}
use Rattle.trail.specs.Lists.{select, rising, travel}
use Rattle.trail.specs.Trail.{upward}
use Rattle.trail.proofs.ListLaws.{Climbing}
use Rattle.trail.proofs.TrailLaws.{trip_climbing, once_distinct}
use Rattle.trip.specs.Stops.{timed, passes, stops_fit}
use Rattle.trip.specs.View.{view_of, stop_texts}
use Rattle.trip.proofs.ViewLaws.{stop_fields, view_stops}
use Rattle.kept.specs.Trips.{StopsKept}
use Rattle.kept.specs.Own.{TripStop, Ahead}
use Rattle.kept.proofs.Members.{In, in_select, select_in, select_test, in_travel, travel_in}
use Rattle.kept.proofs.OrderLaws.{travel_at}
use Rattle.kept.proofs.CarryLaws.{Matches, turned, carried}
use Rattle.kept.proofs.StopLaws.{stops_kept, kept_stops}

-- of two records not each is before the other
ahead_once : {P : Type 0} (trip : ℕ) (p q : Fields) → Ahead trip p q → Ahead trip q p → P
ahead_once trip p q h g =
    either (eqb (trip % 2) 1)
    (λ t.
    let a : number 3 p < number 3 q = rw t at h in
    let b : number 3 q < number 3 p = rw t at g in
    absurd (omega arith))
    (λ t.
    let a : number 3 q < number 3 p = rw t at h in
    let b : number 3 p < number 3 q = rw t at g in
    absurd (omega arith))

module _ (b : Batch) (r : Fields) where
  -- the trip's records, as they stand in the file, and in travel order
  abbrev owned : List Fields
  owned = select (of_trip 8 (number 1 r) (number 2 r)) (records_of b 8)

  abbrev mine : List Fields
  mine = travel (third 8) (number 2 r) owned

  -- each that stands in the list is the trip's, and each of the trip's stands there
  mine_own : (q : Fields) → In [] mine q → TripStop b r q
  mine_own q m =
      let n = travel_in [] (third 8) (number 2 r) q owned m in
      let one = eqb (number 1 q) (number 1 r) in
      let two = eqb (number 2 q) (number 2 r) in
      let t : both one two ≡ true = stop_fields (number 1 r) (number 2 r) q ∙ select_test [] (of_trip 8 (number 1 r) (number 2 r)) q (records_of b 8) n in (
        select_in [] (of_trip 8 (number 1 r) (number 2 r)) q (records_of b 8) n,
        eqb-true (number 1 q) (number 1 r) (both_left one two t),
        eqb-true (number 2 q) (number 2 r) (both_right one two t),
      )

  own_mine : (q : Fields) → TripStop b r q → In [] mine q
  own_mine q h =
      let one = eqb (number 1 q) (number 1 r) in
      let two = eqb (number 2 q) (number 2 r) in
      let t : both one two ≡ true = both_true one two (eq-eqb (number 1 q) (number 1 r) h.1) (eq-eqb (number 2 q) (number 2 r) h.2) in
      in_travel [] (third 8) (number 2 r) q owned
      (in_select [] (of_trip 8 (number 1 r) (number 2 r)) q (records_of b 8) (sym (stop_fields (number 1 r) (number 2 r) q) ∙ t) h.0)

  -- q stands at place i of the list
  abbrev Placed : ℕ → Fields → Type 0
  Placed i q = get_or mine i [] ≡ q

  module _ (d : Distinct b 8) where
    -- by rising number they strictly rise
    owned_climbing : Climbing (third 8) (rising (third 8) owned)
    unfolding upward key_fields key_table
    owned_climbing = trip_climbing 8 (number 1 r) (number 2 r) refl (records_of b 8) (once_distinct b 8 d)

    -- so a record at an earlier place is passed before one at a later place
    place_ahead : (i j : ℕ) → i < j → j < length mine → Ahead (number 2 r) (get_or mine i []) (get_or mine j [])
    unfolding third key_fields key_table numbers
    place_ahead i j h g = travel_at [] (third 8) (number 2 r) owned owned_climbing i j h g

    -- and no other
    ahead_place : (i j : ℕ) → i < length mine → j < length mine → Ahead (number 2 r) (get_or mine i []) (get_or mine j []) → i < j
    ahead_place i j h g a =
        either (ltb i j)
        (λ t. ltb-true i j t)
        (λ t.
        either (ltb j i)
        (λ u. ahead_once (number 2 r) (get_or mine i []) (get_or mine j []) a (place_ahead j i (ltb-true j i u) h))
        (λ u.
        let z : i ≡ j = omega (arith, ltb-false i j t, ltb-false j i u) in
        let s : Ahead (number 2 r) (get_or mine j []) (get_or mine j []) = rw z at a in
        ahead_once (number 2 r) (get_or mine j []) (get_or mine j []) s s))

    -- the places of the list are the trip's records
    places_match : Matches (λ i. i < length mine) (TripStop b r) (λ i. get_or mine i []) (λ q. q) (λ i j. i < j) (Ahead (number 2 r)) Placed
    places_match = record {
      here = own_mine;
      there = λ i h. (get_or mine i [], mine_own (get_or mine i []) (i, h, refl), refl);
      same = λ i q e. e;
      onward = λ i j p q h g s t e f l. rw (← e, ← f) (place_ahead i j l g);
      home = λ i j p q h g s t e f a. ahead_place i j h g (rw (e, f) a);
    }

-- a trip's records, as a list in travel order, fit exactly if the statements hold for them, where no two Zasspoje records have one key and none with a
-- time has a `|` or `<`
pub stops_exactly : (b : Batch) (r : Fields) → Stands b 6 r → Distinct b 8 → ((q : Fields) → Stands b 8 q → timed q ≡ true → passes q ≡ false)
    → (stops_fit (stop_texts (view_of b (number 1 r)) (number 2 r)) ≡ true) ↔ StopsKept Fields (TripStop b r) (λ q. q) (Ahead (number 2 r))
stops_exactly b r s d pure =
    let rs = mine b r in
    let m = places_match b r d in
    rw (view_stops b (number 1 r) (number 2 r)) (
      λ fit.
          carried (λ i. i < length rs) (TripStop b r) (λ i. get_or rs i []) (λ q. q) (λ i j. i < j) (Ahead (number 2 r)) (Placed b r) m
          (stops_kept rs (λ i h. pure (get_or rs i []) (mine_own b r (get_or rs i []) (i, h, refl)).0) fit),
      λ k.
          kept_stops rs
          (carried (TripStop b r) (λ i. i < length rs) (λ q. q) (λ i. get_or rs i []) (Ahead (number 2 r)) (λ i j. i < j) (λ q i. Placed b r i q)
          (turned (λ i. i < length rs) (TripStop b r) (λ i. get_or rs i []) (λ q. q) (λ i j. i < j) (Ahead (number 2 r)) (Placed b r) m) k),
    )
