-- The answer as the code goes about it, on the records of each file.
use Rattle.std.specs.Prelude.{ℕ, ◌-◌, Bool, not, List, [], ◌∷◌, leb, get_or, length, drop}
use Rattle.laws.specs.Tests.{pick, both, bit}
use Rattle.laws.specs.Numbered.{Numbered, answered, refused}
use Rattle.file.specs.Format.{Fields}
use Rattle.field.specs.Names.{arrival, departure}
use Rattle.keys.specs.Keys.{has, third}
use Rattle.link.specs.Met.{number}
use Rattle.trail.specs.Lists.{some}
use Rattle.trip.specs.Stage.{trips_file}
use Rattle.trip.specs.Stops.{arrives, departs, timed}
use Rattle.course.specs.Course.{minute_or}
use Rattle.calling.specs.Calling.{travelled}
use Rattle.marks.specs.Marks.{plain_signs}
use Rattle.stopping.specs.Halt.{sign_sum}

-- of record r, where `more` says whether a record with a time comes behind it, and the trip has `count` stops
unfoldable pub plain_halt : List Fields → List Fields → Fields → Bool → ℕ → List ℕ
plain_halt codes line_stops r more count =
    third 8 r
    ∷ number 4 r
    ∷ bit (arrives r)
    ∷ minute_or (arrival r)
    ∷ bit (departs r)
    ∷ minute_or (departure r)
    ∷ sign_sum (plain_signs codes line_stops r)
    ∷ bit (both (timed r) (not more))
    ∷ count
    ∷ []

-- of the nth stop of a trip, from 1 on
unfoldable pub plain_nth : List Fields → List Fields → List Fields → ℕ → ℕ → ℕ → Numbered
plain_nth codes line_stops stops line trip n =
    let mine = travelled line trip stops in
    pick (both (leb 1 n) (leb n (length mine)))
    (answered (plain_halt codes line_stops (get_or mine (n - 1) []) (some timed (drop n mine)) (length mine)))
    (refused 20)

-- and where there may be no such trip
unfoldable pub plain_stop : List Fields → List Fields → List Fields → List Fields → ℕ → ℕ → ℕ → Numbered
plain_stop codes trips line_stops stops line trip n =
    pick (has trips_file (line ∷ trip ∷ []) trips) (plain_nth codes line_stops stops line trip n) (refused 13)
