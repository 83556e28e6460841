-- A trip's nth stop in travel order, from 0 on, on its line's view: document 01, "A trip's stops".
use Rattle.std.specs.Prelude.{ℕ, ◌+◌, Bool, not, List, [], ◌∷◌, get_or, length, take, drop}
use Rattle.laws.specs.Tests.{pick, both, bit}
use Rattle.keys.specs.Keys.{third}
use Rattle.link.specs.Met.{number}
use Rattle.link.specs.Signs.{is_in}
use Rattle.trail.specs.Lists.{some}
use Rattle.trip.specs.Stops.{arrives, departs, timed, arrival_minute, departure_minute, minute_behind}
use Rattle.trip.specs.View.{WithSigns, View, nobody, stops_of, stop_texts, stop_signs}

-- the stop
abbrev pub stop_at : View → ℕ → ℕ → WithSigns
stop_at v trip n = get_or (stops_of v trip) n nobody

-- the minute that the walk over the trip's times has come to before it
unfoldable pub minute_before : View → ℕ → ℕ → ℕ
minute_before v trip n = minute_behind 0 (take n (stop_texts v trip))

-- its minutes of arrival and of departure; 0 where it has none
unfoldable pub arrival_of : View → ℕ → ℕ → ℕ
arrival_of v trip n = pick (arrives (stop_at v trip n).texts) (arrival_minute (minute_before v trip n) (stop_at v trip n).texts) 0

unfoldable pub departure_of : View → ℕ → ℕ → ℕ
departure_of v trip n = pick (departs (stop_at v trip n).texts) (departure_minute (minute_before v trip n) (stop_at v trip n).texts) 0

-- it is the trip's last record with a time
unfoldable pub is_last : View → ℕ → ℕ → Bool
is_last v trip n = both (timed (stop_at v trip n).texts) (not (some timed (drop (n + 1) (stop_texts v trip))))

-- its signs as one number: 1 for `(`, 2 for `)`, 4 for `x`, 8 for `§`, 16 for `$`
unfoldable pub sign_sum : List ℕ → ℕ
sign_sum signs =
    pick (is_in 40 signs) 1 0 + pick (is_in 41 signs) 2 0 + pick (is_in 120 signs) 4 0 + pick (is_in 0xA7 signs) 8 0 + pick (is_in 36 signs) 16 0

-- all that is answered of it: its tariff number and its stop, its times, signs, whether it is the last with a time; and how many stops the trip has
unfoldable pub halt_of : View → ℕ → ℕ → List ℕ
halt_of v trip n =
    third 8 (stop_at v trip n).texts
    ∷ number 4 (stop_at v trip n).texts
    ∷ bit (arrives (stop_at v trip n).texts)
    ∷ arrival_of v trip n
    ∷ bit (departs (stop_at v trip n).texts)
    ∷ departure_of v trip n
    ∷ sign_sum (stop_signs v (stop_at v trip n))
    ∷ bit (is_last v trip n)
    ∷ length (stops_of v trip)
    ∷ []
