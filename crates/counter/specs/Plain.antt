-- The answer as the code goes about it, on the records of each file.
use Rattle.std.specs.Prelude.{ℕ, ◌≡◌, true, List, [], ◌∷◌}
use Rattle.laws.specs.Tests.{pick, bit}
use Rattle.laws.specs.Numbered.{Numbered, answered, refused}
use Rattle.file.specs.Format.{Fields}
use Rattle.field.specs.Names.{lines_file}
use Rattle.keys.specs.Keys.{has}
use Rattle.trip.specs.Stage.{trips_file}
use Rattle.trips.specs.Plain.{plain_runs}
use Rattle.roll.specs.Roll.{trip_record}

unfoldable pub plain_answer : List Fields → List Fields → List Fields → List Fields → ℕ → ℕ → ℕ → List ℕ → Numbered
plain_answer codes lines trips times line trip d holidays =
    pick (has trips_file (line ∷ trip ∷ []) trips)
    (answered (bit (plain_runs codes lines times line trip (trip_record trips line trip) holidays d) ∷ []))
    (refused 13)

-- the line of a trip is there
abbrev pub LineMet : List Fields → List Fields → ℕ → ℕ → Type 0
LineMet lines trips line trip = has trips_file (line ∷ trip ∷ []) trips ≡ true → has lines_file (line ∷ []) lines ≡ true
