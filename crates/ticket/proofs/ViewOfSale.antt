-- The sale question as the code goes about it, on the records of each file, is on a batch that stands the one on the line's view.
use Rattle.std.specs.Prelude.{None, Option, Some}
use mathlib.Core.Path.{◌≡◌, refl, sym, ap, ◌∙◌}
use mathlib.Core.Bool.{Bool, true}
use mathlib.Core.List.{List, [], ◌∷◌}
use Prim.Native.Nat.{ℕ, ◌<◌}
use native.Mathlib.Omega.{arith}
use lib.Dec.{eqb, ltb}
use lib.ListN.{length, get_or}
use borrow.Author.Tests.{eqb-true, eq-eqb}
use Rattle.laws.specs.Tests.{pick, both, either, clash, both_left, both_right, both_true}
use Rattle.laws.specs.Numbered.{refused}
use Rattle.dates.specs.Dates.{day_number}
use Rattle.file.specs.Format.{Fields}
use Rattle.keys.specs.Keys.{key_of, same, has, first_with, of_trip, third}
use Rattle.keys.proofs.KeyLaws.{same_equal, has_none}
use Rattle.link.specs.Met.{number, Stands}
use Rattle.thirteen.specs.Batch.{Batch, file_in, records_of}
use Rattle.trail.specs.Lists.{select, some, travel}
use Rattle.trail.specs.Trail.{upward}
use Rattle.trail.proofs.TrailLaws.{trip_climbing, once_distinct}
use Rattle.trip.specs.View.{of_line, trip_signs, view_of, numbered, runs_on}
use Rattle.trip.proofs.ViewLaws.{view_signed_stops}
use Rattle.kept.proofs.Members.{travel_in, select_in, select_test}
use Rattle.calling.specs.Calling.{travelled}
use Rattle.calling.proofs.CallingLaws.{three_numbers}
use Rattle.trips.specs.Plain.{plain_runs}
use Rattle.trips.specs.Standing.{Standing}
use Rattle.trips.proofs.PlainLaws.{plain_runs_lem}
use Rattle.roll.specs.Roll.{trip_record}
use Rattle.roll.proofs.TripLaws.{trip_key, trip_found}
use Rattle.stopping.specs.Halt.{minute_before, arrival_of, departure_of}
use Rattle.stopping.proofs.StoppingLaws.{arrival_is, departure_is, ours, signed, ith, ith_is, ith_signs}
use Rattle.boarding.specs.Plain.{passed_first}
use Rattle.ticket.specs.Plain.{stop_record, plain_sold, placed_between, plain_between, plain_trip, plain_day, plain_sale}
use Rattle.ticket.proofs.FirstLaws.{before_at, first_in, some_travel, some_each, before_each, travel_order, has_select, has_some, stop_key, one_record}
use Rattle.ticket.specs.Sale as sale
use Rattle.ticket.specs.Sale.{
  has_trip,
  of_tariff,
  has_stop,
  before,
  place_of,
  stop_of,
  no_boarding,
  no_leaving,
  one_section,
  leaving_minute,
  minutes_of,
  between_stops,
  sale_on,
}

-- THE TRIP.
module _ (b : Batch) (stands : Standing b) (line trip : ℕ) where
  -- it is among the records of its file exactly if it is in the view
  trip_there : has 6 (line ∷ trip ∷ []) (records_of b 6) ≡ has_trip (view_of b line) trip
  unfolding has_trip view_of
  trip_there =
      has_select 6 (line ∷ trip ∷ []) (λ r. eqb (number 2 r) trip) (of_line line) (trip_key line trip) (records_of b 6)
      ∙ sym (some_each (λ r. record { texts = r; signs = trip_signs b r }) (numbered trip) (select (of_line line) (records_of b 6)))

  -- its record says when it runs
  trip_runs : (holidays : List ℕ) (d : ℕ) → has 6 (line ∷ trip ∷ []) (records_of b 6) ≡ true
      → plain_runs (records_of b 3) (records_of b 5) (records_of b 10) line trip (trip_record (records_of b 6) line trip) holidays d
      ≡ runs_on (view_of b line) trip holidays d
  trip_runs holidays d h = go (first_with 6 (line ∷ trip ∷ []) 0 (records_of b 6)) refl
    where
      go : (f : Option ℕ) → first_with 6 (line ∷ trip ∷ []) 0 (records_of b 6) ≡ f
          → plain_runs (records_of b 3) (records_of b 5) (records_of b 10) line trip (trip_record (records_of b 6) line trip) holidays d
          ≡ runs_on (view_of b line) trip holidays d
      go (Some p) e =
          let l = (stands.sound 6 (omega arith) (omega arith)).legal in
          rw (trip_found (file_in b 6) line trip p l e) (plain_runs_lem b line trip p l e holidays d)
      go None e = clash h (has_none 6 (line ∷ trip ∷ []) 0 (records_of b 6) e)

  -- THE STOPS. A tariff number is in the view exactly if it is among the trip's records in travel order.
  stop_some : (tariff : ℕ) → some (λ r. eqb (third 8 r) tariff) (ours b line trip) ≡ has_stop (view_of b line) trip tariff
  unfolding has_stop travelled
  stop_some tariff =
      sym (some_each (signed b line trip) (of_tariff tariff) (ours b line trip)) ∙ ap (some (of_tariff tariff)) (sym (view_signed_stops b line trip))

  -- so if it is in the file
  stop_there : (tariff : ℕ) → has 8 (line ∷ trip ∷ tariff ∷ []) (records_of b 8) ≡ has_stop (view_of b line) trip tariff
  unfolding travelled
  stop_there tariff =
      has_select 8 (line ∷ trip ∷ tariff ∷ []) (λ r. eqb (third 8 r) tariff) (of_trip 8 line trip) (stop_key line trip tariff) (records_of b 8)
      ∙ sym (some_travel [] (λ r. eqb (third 8 r) tariff) (third 8) trip (select (of_trip 8 line trip) (records_of b 8)))
      ∙ stop_some tariff

  -- so many of its records stand before that of a tariff number
  place_is : (tariff : ℕ) → place_of (view_of b line) trip tariff ≡ before (λ r. eqb (third 8 r) tariff) (ours b line trip)
  unfolding place_of travelled
  place_is tariff =
      ap (before (of_tariff tariff)) (view_signed_stops b line trip)
      ∙ before_each (signed b line trip) (of_tariff tariff) (travel (third 8) trip (select (of_trip 8 line trip) (records_of b 8)))

  -- the record at a place stands in the file, and is of the trip
  ith_stands : (i : ℕ) (h : i < length (ours b line trip)) → Stands b 8 (ith b line trip i h) × (of_trip 8 line trip (ith b line trip i h) ≡ true)
  unfolding travelled
  ith_stands i h =
      let mine = select (of_trip 8 line trip) (records_of b 8) in
      let r = ith b line trip i h in
      let m = travel_in [] (third 8) trip r mine (i, h, refl) in
      (select_in [] (of_trip 8 line trip) r (records_of b 8) m, select_test [] (of_trip 8 line trip) r (records_of b 8) m)

  -- a tariff number that is among them
  module _ (tariff : ℕ) (h : has_stop (view_of b line) trip tariff ≡ true) where
    abbrev place : ℕ
    place = place_of (view_of b line) trip tariff

    -- its place is one of theirs, and the record there has it
    place_at : (place < length (ours b line trip)) × (third 8 (get_or (ours b line trip) place []) ≡ tariff)
    place_at =
        let all = ours b line trip in
        let test : Fields → Bool = λ r. eqb (third 8 r) tariff in
        let w = before_at [] test all (stop_some tariff ∙ h) in
        rw (place_is tariff) (w.0, eqb-true (third 8 (get_or all (before test all) [])) tariff w.1)

    -- it has the key
    abbrev found : Fields
    found = ith b line trip place place_at.0

    found_key : same (key_of 8 found) (line ∷ trip ∷ tariff ∷ []) ≡ true
    found_key =
        sym (stop_key line trip tariff found)
        ∙ both_true (of_trip 8 line trip found) (eqb (third 8 found) tariff) (ith_stands place place_at.0).1 (eq-eqb (third 8 found) tariff place_at.1)

    -- and is the one that is found by it
    record_at_lem : stop_record (records_of b 8) line trip tariff ≡ found
    record_at_lem =
        let k = line ∷ trip ∷ tariff ∷ [] in
        let test : Fields → Bool = λ r. same (key_of 8 r) k in
        let w = first_in [] test (records_of b 8) (sym (has_some 8 k (records_of b 8)) ∙ stop_there tariff ∙ h) in
        let r = stop_record (records_of b 8) line trip tariff in
        one_record b 8 stands.linking.trip_stops_key r found w.0 (ith_stands place place_at.0).0
        (same_equal (key_of 8 r) k w.1 ∙ sym (same_equal (key_of 8 found) k found_key))

  -- TWO STOPS of the trip.
  module _ (from to : ℕ) (h : has_stop (view_of b line) trip from ≡ true) (k : has_stop (view_of b line) trip to ≡ true) where
    -- the first is before the second by its tariff number exactly if it is by its place
    places_order : passed_first trip from to ≡ ltb (place_of (view_of b line) trip from) (place_of (view_of b line) trip to)
    unfolding passed_first travelled upward
    places_order =
        let p = place_at from h in
        let q = place_at to k in
        let c = trip_climbing 8 line trip three_numbers (records_of b 8) (once_distinct b 8 stands.linking.trip_stops_key) in
        rw (p.1, q.1) at
        (travel_order [] (third 8) trip (select (of_trip 8 line trip) (records_of b 8)) c (place_of (view_of b line) trip from) (place_of (view_of b line) trip to) p.0 q.0)

    -- 16 on
    between_view : plain_between (records_of b 3) (records_of b 7) (records_of b 8) line trip from to ≡ between_stops (view_of b line) trip from to
    unfolding plain_between placed_between plain_sold between_stops no_boarding no_leaving one_section minutes_of leaving_minute stop_of arrival_of departure_of
    between_view =
        let v = view_of b line in
        let i = place_of v trip from in
        let j = place_of v trip to in
        let p = (place_at from h).0 in
        let q = (place_at to k).0 in
        rw (
          record_at_lem from h,
          record_at_lem to k,
          places_order,
          ith_is b line trip i p,
          ith_is b line trip j q,
          ith_signs b line trip i p,
          ith_signs b line trip j q,
          departure_is (minute_before v trip i) (ith b line trip i p),
          arrival_is (minute_before v trip j) (ith b line trip j q),
          departure_is (minute_before v trip j) (ith b line trip j q),
        )

  -- THE ANSWER. 14 and 15 on.
  module _ (d from to : ℕ) (holidays : List ℕ) where
    trip_view : has 6 (line ∷ trip ∷ []) (records_of b 6) ≡ true
        → plain_trip (records_of b 3) (records_of b 5) (records_of b 6) (records_of b 7) (records_of b 8) (records_of b 10) line trip (trip_record (records_of b 6) line trip) d from to holidays
        ≡ sale.of_trip (view_of b line) trip d from to holidays
    unfolding plain_trip sale.of_trip
    trip_view h =
        let v = view_of b line in
        either (both (has_stop v trip from) (has_stop v trip to))
        (λ t.
        let p = both_left (has_stop v trip from) (has_stop v trip to) t in
        let q = both_right (has_stop v trip from) (has_stop v trip to) t in
        rw (stop_there from, stop_there to, t, trip_runs holidays d h, between_view from to p q))
        (λ t. rw (stop_there from, stop_there to, t))

    -- 13 on
    day_view : plain_day (records_of b 3) (records_of b 5) (records_of b 6) (records_of b 7) (records_of b 8) (records_of b 10) line trip d from to holidays
        ≡ pick (has_trip (view_of b line) trip) (sale.of_trip (view_of b line) trip d from to holidays) (refused 13)
    unfolding plain_day
    day_view =
        either (has_trip (view_of b line) trip)
        (λ t. rw (trip_there, t) (trip_view (trip_there ∙ t)))
        (λ t. rw (trip_there, t))

-- the whole answer
pub plain_sale_lem : (b : Batch) → Standing b → (line trip day month year from to : ℕ) (holidays : List ℕ)
    → plain_sale (records_of b 3) (records_of b 5) (records_of b 6) (records_of b 7) (records_of b 8) (records_of b 10) line trip day month year from to holidays
    ≡ sale_on (view_of b line) trip day month year from to holidays
unfolding plain_sale sale_on
plain_sale_lem b stands line trip day month year from to holidays = rw (day_view b stands line trip (day_number day month year) from to holidays)
