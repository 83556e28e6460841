-- The sale question on a line's own view: document 01, "Numbers a call can come back with", 12 to 19, and "A sale is asked by ..".
use Rattle.std.specs.Prelude.{ℕ, suc, Bool, not, List, [], ◌∷◌, eqb, ltb}
use Rattle.laws.specs.Tests.{pick, both, one_of}
use Rattle.laws.specs.Numbered.{Numbered, answered, refused}
use Rattle.dates.specs.Dates.{is_date, day_number}
use Rattle.keys.specs.Keys.{third}
use Rattle.link.specs.Signs.{is_in}
use Rattle.trail.specs.Lists.{some}
use Rattle.trip.specs.Stops.{arrives, departs, timed}
use Rattle.trip.specs.View.{WithSigns, View, numbered, stops_of, stop_signs, runs_on}
use Rattle.stopping.specs.Halt.{stop_at, arrival_of, departure_of}

-- a trip of this number is among the line's
unfoldable pub has_trip : View → ℕ → Bool
has_trip v trip = some (numbered trip) v.trips

-- a stop has this tariff number
abbrev pub of_tariff : ℕ → WithSigns → Bool
of_tariff tariff p = eqb (third 8 p.texts) tariff

-- a tariff number is among the trip's records
unfoldable pub has_stop : View → ℕ → ℕ → Bool
has_stop v trip tariff = some (of_tariff tariff) (stops_of v trip)

-- how many stand before the first that passes a test
unfoldable pub before : {A : Type 0} → (A → Bool) → List A → ℕ
before test [] = 0
before test (a ∷ rest) = pick (test a) 0 (suc (before test rest))

-- the place of the trip's stop of a tariff number in travel order, from 0 on
unfoldable pub place_of : View → ℕ → ℕ → ℕ
place_of v trip tariff = before (of_tariff tariff) (stops_of v trip)

-- and that stop
unfoldable pub stop_of : View → ℕ → ℕ → WithSigns
stop_of v trip tariff = stop_at v trip (place_of v trip tariff)

-- it has this sign
abbrev pub has_sign : View → ℕ → WithSigns → Bool
has_sign v x p = is_in x (stop_signs v p)

-- 17: first stop: no departure time, or `(` (40) or `$` (36)
unfoldable pub no_boarding : View → WithSigns → Bool
no_boarding v p = one_of (not (departs p.texts)) (one_of (has_sign v 40 p) (has_sign v 36 p))

-- 18: second stop: no time, or `)` (41) or `$`
unfoldable pub no_leaving : View → WithSigns → Bool
no_leaving v p = one_of (not (timed p.texts)) (one_of (has_sign v 41 p) (has_sign v 36 p))

-- 19: both stops have `§`
unfoldable pub one_section : View → WithSigns → WithSigns → Bool
one_section v p q = both (has_sign v 0xA7 p) (has_sign v 0xA7 q)

-- the answer is two minutes of the day: departure at the first stop; arrival at the second, or its departure if no arrival is given
unfoldable pub leaving_minute : View → ℕ → ℕ → ℕ
leaving_minute v trip n = pick (arrives (stop_at v trip n).texts) (arrival_of v trip n) (departure_of v trip n)

unfoldable pub minutes_of : View → ℕ → ℕ → ℕ → List ℕ
minutes_of v trip from to = departure_of v trip (place_of v trip from) ∷ leaving_minute v trip (place_of v trip to) ∷ []

-- 16 to 19 in order, for two stops of the trip
unfoldable pub between_stops : View → ℕ → ℕ → ℕ → Numbered
between_stops v trip from to =
    pick (ltb (place_of v trip from) (place_of v trip to))
    (pick (no_boarding v (stop_of v trip from)) (refused 17)
    (pick (no_leaving v (stop_of v trip to)) (refused 18)
    (pick (one_section v (stop_of v trip from) (stop_of v trip to)) (refused 19)
    (answered (minutes_of v trip from to)))))
    (refused 16)

-- 14 for both numbers, then 15, for a trip of the line and a day
unfoldable pub of_trip : View → ℕ → ℕ → ℕ → ℕ → List ℕ → Numbered
of_trip v trip d from to holidays =
    pick (both (has_stop v trip from) (has_stop v trip to))
    (pick (runs_on v trip holidays d) (between_stops v trip from to) (refused 15))
    (refused 14)

-- 12, then 13
unfoldable pub sale_on : View → ℕ → ℕ → ℕ → ℕ → ℕ → ℕ → List ℕ → Numbered
sale_on v trip day month year from to holidays =
    pick (is_date day month year)
    (pick (has_trip v trip) (of_trip v trip (day_number day month year) from to holidays) (refused 13))
    (refused 12)
