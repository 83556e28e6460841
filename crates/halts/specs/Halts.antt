-- A trip's nth stop, by what is left of its Zasspoje records where the walk stands.
use Rattle.std.specs.Prelude.{ℕ, ◌+◌, ◌≡◌, List, drop}
use Rattle.file.specs.Files.{fields_of}
use Rattle.file.specs.Records.{records_in}
use Rattle.field.specs.Names.{trip_stops_file}
use Rattle.keys.specs.KeyFiles.{PlaceIn}
use Rattle.coded.specs.Left.{left_at}
use Rattle.calling.specs.Calling.{travelled, goes_up}

-- the trip's records in travel order from the nth on are those that are left where the walk stands
pub record Nth (s : List ℕ) (line trip n at : ℕ) : Type 0 where
  pub place : PlaceIn trip_stops_file s at
  pub left : left_at trip_stops_file s (goes_up trip) line trip at ≡ drop n (travelled line trip (records_in (fields_of trip_stops_file) s))
