-- The trips of a batch one by one, in Spoje order.
use Rattle.std.specs.Prelude.{ℕ, ◌<◌, ◌≡◌, List, [], eqb, drop}
use Rattle.laws.specs.Tests.{both}
use Rattle.file.specs.Files.{fields_of}
use Rattle.file.specs.Format.{Fields}
use Rattle.file.specs.Records.{records_in}
use Rattle.keys.specs.Keys.{none}
use Rattle.keys.specs.KeyFiles.{PlaceIn, records_from}
use Rattle.link.specs.Met.{number}
use Rattle.trail.specs.Lists.{first_or}
use Rattle.trip.specs.Stage.{trips_file}
use Rattle.roll.specs.declared.Name.{Name}

-- the records of Spoje from the nth on, from 0, are those from this place on; behind the last it is the end of the file
pub record NthTrip (s : List ℕ) (n at : ℕ) : Type 0 where
  pub place : PlaceIn trips_file s at
  pub left : records_from trips_file s at ≡ drop n (records_in (fields_of trips_file) s)

-- the record of a trip
abbrev pub trip_record : List Fields → ℕ → ℕ → Fields
trip_record trips line trip = first_or [] (λ r. both (eqb (number 1 r) line) (eqb (number 2 r) trip)) trips

-- the line and the number of a trip
pub record Names (r : Fields) (name : Name) : Type 0 where
  pub of_line : name.line ≡ number 1 r
  pub of_trip_lem : name.trip ≡ number 2 r
  pub small_line : name.line < none
  pub small_trip : name.trip < none
