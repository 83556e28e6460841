-- How many records four files have.
use Rattle.std.specs.Prelude.{ℕ, ◌≡◌, List, length}
use Rattle.file.specs.Files.{fields_of}
use Rattle.file.specs.Records.{records_in}
use Rattle.counts.specs.declared.Counts.{Counts}

-- the counts of four files by themselves
pub record Counted (f2 f5 f6 f8 : List ℕ) (c : Counts) : Type 0 where
  pub stops : c.stops ≡ length (records_in (fields_of 2) f2)
  pub lines : c.lines ≡ length (records_in (fields_of 5) f5)
  pub trips : c.trips ≡ length (records_in (fields_of 6) f6)
  pub stops_of_trips : c.trip_stops ≡ length (records_in (fields_of 8) f8)
