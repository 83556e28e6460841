-- A trip's Zasspoje records in travel order, as they are found in the file.
use Rattle.std.specs.Prelude.{ℕ, ◌%◌, Bool, List, eqb}
use Rattle.file.specs.Files.{fields_of}
use Rattle.file.specs.Format.{Fields}
use Rattle.file.specs.Records.{records_in}
use Rattle.field.specs.Names.{trip_stops_file}
use Rattle.keys.specs.Keys.{of_trip, third}
use Rattle.trail.specs.Lists.{select, travel}
use Rattle.trail.specs.Trail.{begin, step_of, place_of}

unfoldable pub travelled : ℕ → ℕ → List Fields → List Fields
travelled line trip rs = travel (third trip_stops_file) trip (select (of_trip trip_stops_file line trip) rs)

-- upward for an odd trip number
abbrev pub goes_up : ℕ → Bool
goes_up trip = eqb (trip % 2) 1

-- where the first of them stands
unfoldable pub first_place : List ℕ → ℕ → ℕ → ℕ
first_place s line trip =
    place_of s (step_of trip_stops_file (goes_up trip) line trip (begin (goes_up trip)) (records_in (fields_of trip_stops_file) s))
