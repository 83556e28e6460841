-- Document 01, "A trip's stops": refusal 11, over a trip's Zasspoje records in travel order, and a stop's minutes.
use Rattle.std.specs.Prelude.{ℕ, List, [], ◌∷◌, Bool, true, false, not, eqb, leb}
use Rattle.laws.specs.Tests.{pick, both, one_of}
use Rattle.file.specs.Format.{Text, Fields}
use Rattle.field.specs.Values.{is_empty, given, among, value, is_time, minute_of}
use Rattle.field.specs.Names.{kilometres, arrival, departure}
use Rattle.trail.specs.Lists.{some, tally}

-- a record has an arrival, a departure: "a time" is always HHMM
unfoldable pub arrives : Fields → Bool
arrives r = is_time (arrival r)

unfoldable pub departs : Fields → Bool
departs r = is_time (departure r)

-- it has a time
unfoldable pub timed : Fields → Bool
timed r = one_of (arrives r) (departs r)

-- `|` or `<` stands in one of a record's two time fields
unfoldable pub passes_in : Text → Text → Bool
passes_in a d = one_of (among (124 ∷ 60 ∷ []) a) (among (124 ∷ 60 ∷ []) d)

abbrev pub passes : Fields → Bool
passes r = passes_in (arrival r) (departure r)

-- both its time fields are empty
unfoldable pub blank : Fields → Bool
blank r = both (is_empty (arrival r)) (is_empty (departure r))

-- the first with a time has a departure, no arrival, kilometre 0; by its own rule (6) a record with a time has its kilometres given
unfoldable pub first_fits : Fields → Bool
first_fits r = both (departs r) (both (not (arrives r)) (eqb (value (kilometres r)) 0))

-- A record in its place: `begun` says whether one with a time stands before it, and `goes_on` whether one stands behind it. It is the first with a
-- time, or the last, or stands between them, or outside; between them no record has both time fields empty, one with a time has a departure, and
-- only there may `|` and `<` stand. (A record that alone has a time is tried as the first; that there are two is asked apart.)
unfoldable pub place_fits : Bool → Bool → Fields → Bool
place_fits begun goes_on r =
    pick (timed r)
    (pick begun (pick goes_on (departs r) (arrives r)) (first_fits r))
    (pick (both begun goes_on) (not (blank r)) (not (passes r)))

-- each of these records fits its place
unfoldable pub places_fit : Bool → List Fields → Bool
places_fit begun [] = true
places_fit begun (r ∷ rs) = both (place_fits begun (some timed rs) r) (places_fit (one_of begun (timed r)) rs)

-- THE WALK OVER TIMES. It carries the last time, as a minute of the day, and goes from time field to time field, arrival before departure. It sets
-- out from 0: no time is below it.
-- the minute that a time field brings the walk to: a field that is no time leaves it where it was
unfoldable pub minute_at : ℕ → Text → ℕ
minute_at last t = pick (is_time t) (minute_of t) last

-- the walk doesn't fall there
unfoldable pub never_falls : ℕ → Text → Bool
never_falls last t = leb last (minute_at last t)

-- the minutes that a record's arrival, and then its departure, bring the walk to; where there is no such time it stays
unfoldable pub arrival_minute : ℕ → Fields → ℕ
arrival_minute last r = minute_at last (arrival r)

unfoldable pub departure_minute : ℕ → Fields → ℕ
departure_minute last r = minute_at (arrival_minute last r) (departure r)

-- times never fall
unfoldable pub times_fit : ℕ → List Fields → Bool
times_fit last [] = true
times_fit last (r ∷ rs) =
    both (both (never_falls last (arrival r)) (never_falls (arrival_minute last r) (departure r))) (times_fit (departure_minute last r) rs)

-- where the walk stands behind these records
unfoldable pub minute_behind : ℕ → List Fields → ℕ
minute_behind last [] = last
minute_behind last (r ∷ rs) = minute_behind (departure_minute last r) rs

-- kilometres never fall, where they are given
unfoldable pub lengths_fit : ℕ → List Fields → Bool
lengths_fit last [] = true
lengths_fit last (r ∷ rs) =
    pick (given (kilometres r)) (both (leb last (value (kilometres r))) (lengths_fit (value (kilometres r)) rs)) (lengths_fit last rs)

-- a trip with these records, in travel order, isn't refused with 11: at least two have a time, each fits its place, times and kilometres never fall
unfoldable pub stops_fit : List Fields → Bool
stops_fit rs = both (leb 2 (tally timed rs)) (both (places_fit false rs) (both (times_fit 0 rs) (lengths_fit 0 rs)))
