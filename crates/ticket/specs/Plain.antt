-- The answer as the code goes about it, on the records of each file; that it is the definition's on a batch that stands is proved (proofs/).
use Rattle.std.specs.Prelude.{ℕ, ◌≡◌, true, not, List, [], ◌∷◌}
use Rattle.laws.specs.Tests.{pick, both, one_of}
use Rattle.laws.specs.Numbered.{Numbered, answered, refused}
use Rattle.dates.specs.Dates.{is_date, day_number}
use Rattle.file.specs.Format.{Fields}
use Rattle.field.specs.Names.{lines_file, trip_stops_file, arrival, departure}
use Rattle.keys.specs.Keys.{has, key_of, same}
use Rattle.link.specs.Signs.{is_in}
use Rattle.trail.specs.Lists.{first_or}
use Rattle.trip.specs.Stage.{trips_file}
use Rattle.trip.specs.Stops.{arrives, departs, timed}
use Rattle.course.specs.Course.{minute_or}
use Rattle.trips.specs.Plain.{plain_runs}
use Rattle.marks.specs.Marks.{plain_signs}
use Rattle.roll.specs.Roll.{trip_record}
use Rattle.boarding.specs.Plain.{passed_first}
use Rattle.boarding.specs.declared.Served.{Served}

-- the trip's record of a tariff number
abbrev pub stop_record : List Fields → ℕ → ℕ → ℕ → Fields
stop_record stops line trip tariff = first_or [] (λ r. same (key_of trip_stops_file r) (line ∷ trip ∷ tariff ∷ [])) stops

-- what the code knows of a stop, where `codes` and `line_stops` are the records of Pevnykod and Zaslinky
pub record ServedBy (codes line_stops : List Fields) (r : Fields) (s : Served) : Type 0 where
  pub departs_is : s.departs ≡ departs r
  pub departure_is : s.departure ≡ minute_or (departure r)
  pub arrives_is : s.arrives ≡ arrives r
  pub arrival_is : s.arrival ≡ minute_or (arrival r)
  pub boarding_is : s.no_boarding ≡ one_of (is_in 40 (plain_signs codes line_stops r)) (is_in 36 (plain_signs codes line_stops r))
  pub leaving_is : s.no_leaving ≡ one_of (is_in 41 (plain_signs codes line_stops r)) (is_in 36 (plain_signs codes line_stops r))
  pub section_is : s.section ≡ is_in 0xA7 (plain_signs codes line_stops r)

-- 17 to 19, of the records of two stops
unfoldable pub plain_sold : List Fields → List Fields → Fields → Fields → Numbered
plain_sold codes line_stops p q =
    pick (one_of (not (departs p)) (one_of (is_in 40 (plain_signs codes line_stops p)) (is_in 36 (plain_signs codes line_stops p)))) (refused 17)
    (pick (one_of (not (timed q)) (one_of (is_in 41 (plain_signs codes line_stops q)) (is_in 36 (plain_signs codes line_stops q)))) (refused 18)
    (pick (both (is_in 0xA7 (plain_signs codes line_stops p)) (is_in 0xA7 (plain_signs codes line_stops q))) (refused 19)
    (answered (minute_or (departure p) ∷ pick (arrives q) (minute_or (arrival q)) (minute_or (departure q)) ∷ []))))

-- 16 on, of two records of Zasspoje
unfoldable pub placed_between : List Fields → List Fields → Fields → Fields → ℕ → ℕ → ℕ → Numbered
placed_between codes line_stops p q trip from to = pick (passed_first trip from to) (plain_sold codes line_stops p q) (refused 16)

-- 16 on
unfoldable pub plain_between : List Fields → List Fields → List Fields → ℕ → ℕ → ℕ → ℕ → Numbered
plain_between codes line_stops stops line trip from to =
    placed_between codes line_stops (stop_record stops line trip from) (stop_record stops line trip to) trip from to

-- 14 and 15 on, where the first stop's record p was found
unfoldable pub placed_to : List Fields → List Fields → List Fields → List Fields → List Fields → Fields → ℕ → ℕ → Fields → ℕ → ℕ → ℕ → List ℕ → Numbered
placed_to codes lines line_stops stops times p line trip r d from to holidays =
    pick (has trip_stops_file (line ∷ trip ∷ to ∷ []) stops)
    (pick (plain_runs codes lines times line trip r holidays d) (placed_between codes line_stops p (stop_record stops line trip to) trip from to) (refused 15))
    (refused 14)

module _ (codes lines trips line_stops stops times : List Fields) where
  -- 14 and 15 on, of the trip of record r
  unfoldable pub plain_trip : ℕ → ℕ → Fields → ℕ → ℕ → ℕ → List ℕ → Numbered
  plain_trip line trip r d from to holidays =
      pick (both (has trip_stops_file (line ∷ trip ∷ from ∷ []) stops) (has trip_stops_file (line ∷ trip ∷ to ∷ []) stops))
      (pick (plain_runs codes lines times line trip r holidays d) (plain_between codes line_stops stops line trip from to) (refused 15))
      (refused 14)

  -- 13 on
  unfoldable pub plain_day : ℕ → ℕ → ℕ → ℕ → ℕ → List ℕ → Numbered
  plain_day line trip d from to holidays =
      pick (has trips_file (line ∷ trip ∷ []) trips) (plain_trip line trip (trip_record trips line trip) d from to holidays) (refused 13)

  -- 12 on
  unfoldable pub plain_sale : ℕ → ℕ → ℕ → ℕ → ℕ → ℕ → ℕ → List ℕ → Numbered
  plain_sale line trip day month year from to holidays =
      pick (is_date day month year) (plain_day line trip (day_number day month year) from to holidays) (refused 12)

-- the line of every trip is there
abbrev pub LinesMet : List Fields → List Fields → Type 0
LinesMet lines trips = (line trip : ℕ) → has trips_file (line ∷ trip ∷ []) trips ≡ true → has lines_file (line ∷ []) lines ≡ true
