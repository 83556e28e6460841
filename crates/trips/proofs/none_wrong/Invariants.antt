-- `trips::none_wrong` meets its contract. The loop's invariant: nothing is wrong with the trips that the entries below i name.
use Rattle.file.specs.Files.{fields_of}
use Rattle.file.specs.Records.{records_in}
use Rattle.keys.specs.KeyFiles.{PlaceIn, IsIndex}
use Rattle.trips.proofs.IndexedLaws.{Fit}
use Rattle.trips.proofs.none_wrong.Given as goal

abbrev pub invariant-loop-i : goal.invariant-loop-i
invariant-loop-i l = IsIndex 6 l.f6 l.part × Fit (records_in (fields_of 3) l.f3) (records_in (fields_of 8) l.f8) (records_in (fields_of 10) l.f10) l.f6 l.part l.i
    × PlaceIn 10 l.f10 l.tried.code × PlaceIn 8 l.f8 l.tried.stop
