-- A line's own view: its Linky record, its Spoje, Zaslinky, Zasspoje and Caskody records in their order, and the signs of their codes. No record
-- numbers and no offsets are in it, and everything about a trip is said of its line's view and its number.
use Rattle.std.specs.Prelude.{ℕ, zero, suc, ◌+◌, List, [], ◌∷◌, ◌++◌, Bool, eqb, length}
use Rattle.laws.specs.Tests.{pick, both}
use Rattle.file.specs.Format.{Fields}
use Rattle.field.specs.Values.{is_empty, value}
use Rattle.field.specs.Names.{field}
use Rattle.keys.specs.Keys.{third}
use Rattle.link.specs.Met.{number}
use Rattle.link.specs.Signs.{sign_of}
use Rattle.thirteen.specs.Batch.{Batch, records_of}
use Rattle.trail.specs.Lists.{select, first_or, each, rising, travel}
use Rattle.trip.specs.Days.{days_fit, codes_allow, is_valid}
use Rattle.trip.specs.Stops.{stops_fit}

-- a record, and the signs of its codes
pub record WithSigns : Type 0 where
  pub texts : Fields
  pub signs : List ℕ

abbrev pub nobody : WithSigns
nobody = record { texts = []; signs = [] }

-- the signs of the codes in so many fields from field f on; an empty code has none
unfoldable pub signs_from : (ℕ → ℕ) → ℕ → ℕ → Fields → List ℕ
signs_from sign f zero r = []
signs_from sign f (suc count) r =
    pick (is_empty (field f r)) (signs_from sign (f + 1) count r) (sign (value (field f r)) ∷ signs_from sign (f + 1) count r)

-- the codes of Spoje, fields 3-12; of Zaslinky, 5-7; of Zasspoje, 6-7
unfoldable pub trip_signs : Batch → Fields → List ℕ
trip_signs b r = signs_from (sign_of b) 3 10 r

unfoldable pub line_stop_signs : Batch → Fields → List ℕ
line_stop_signs b r = signs_from (sign_of b) 5 3 r

unfoldable pub trip_stop_signs : Batch → Fields → List ℕ
trip_stop_signs b r = signs_from (sign_of b) 6 2 r

-- the view
pub record View : Type 0 where
  pub line : Fields
  pub trips : List WithSigns
  pub line_stops : List WithSigns
  pub trip_stops : List WithSigns
  pub time_codes : List Fields

-- a record of this line, by its field 1
abbrev pub of_line : ℕ → Fields → Bool
of_line line r = eqb (number 1 r) line

-- the line's own records of a file, by the file's number
abbrev pub own_records : Batch → ℕ → ℕ → List Fields
own_records b line file = select (of_line line) (records_of b file)

-- and with their signs
abbrev pub with_signs : (Fields → List ℕ) → List Fields → List WithSigns
with_signs signs rs = each (λ r. record { texts = r; signs = signs r }) rs

unfoldable pub view_of : Batch → ℕ → View
view_of b line = record {
  line = first_or [] (of_line line) (records_of b 5);  -- Linky
  trips = with_signs (trip_signs b) (own_records b line 6);  -- Spoje
  line_stops = with_signs (line_stop_signs b) (own_records b line 7);  -- Zaslinky
  trip_stops = with_signs (trip_stop_signs b) (own_records b line 8);  -- Zasspoje
  time_codes = own_records b line 10;  -- Caskody
}

-- A record has this trip number, in its field 2.
abbrev pub numbered : ℕ → WithSigns → Bool
numbered trip p = eqb (number 2 p.texts) trip

-- the trip of this number: its record in Spoje
unfoldable pub trip_of : View → ℕ → WithSigns
trip_of v trip = first_or nobody (numbered trip) v.trips

-- its time codes, by their numbers (the third of the key in file 10)
unfoldable pub codes_of : View → ℕ → List Fields
codes_of v trip = rising (third 10) (select (λ r. eqb (number 2 r) trip) v.time_codes)

-- its stops in travel order, by their tariff numbers (the third of the key in file 8)
unfoldable pub stops_of : View → ℕ → List WithSigns
stops_of v trip = travel (λ p. third 8 p.texts) trip (select (numbered trip) v.trip_stops)

-- the same without signs
abbrev pub stop_texts : View → ℕ → List Fields
stop_texts v trip = each (λ p. p.texts) (stops_of v trip)

-- what is wrong with a trip: 10 before 11; 0 if nothing is
unfoldable pub trip_fault : View → ℕ → ℕ
trip_fault v trip = pick (days_fit (trip_of v trip).signs (codes_of v trip)) (pick (stops_fit (stop_texts v trip)) 0 11) 10

-- the trip runs on day d: d is within its line's validity, and its signs and time codes allow it. It is asked of trips that there are
unfoldable pub runs_on : View → ℕ → List ℕ → ℕ → Bool
runs_on v trip holidays d = both (is_valid v.line d) (codes_allow (trip_of v trip).signs (codes_of v trip) d holidays)

-- the line's stop of a tariff number
unfoldable pub line_stop_of : View → ℕ → WithSigns
line_stop_of v tariff = first_or nobody (λ p. eqb (number 2 p.texts) tariff) v.line_stops

-- the signs of a trip's stop: those of its Zasspoje codes, or if it has none, those of Zaslinky; a `$` (36) in Zaslinky always counts
unfoldable pub stop_signs : View → WithSigns → List ℕ
stop_signs v p =
    let theirs = (line_stop_of v (third 8 p.texts)).signs in
    pick (eqb (length p.signs) 0) theirs (p.signs ++ select (λ x. eqb x 36) theirs)
