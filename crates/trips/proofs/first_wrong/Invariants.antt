-- `trips::first_wrong` meets its contract. The loop's invariant: the first fault of the trips from `at` on, the first of which is record k, is that
-- of all.
use Prim.Native.Nat.{◌-◌}
use lib.ListN.{length}
use Rattle.file.specs.Files.{fields_of}
use Rattle.file.specs.Records.{records_in}
use Rattle.keys.specs.KeyFiles.{PlaceIn}
use Rattle.trips.proofs.LeftLaws.{Left}
use Rattle.trips.proofs.first_wrong.Given as goal

abbrev pub invariant-loop-at : goal.invariant-loop-at
invariant-loop-at l = Left (records_in (fields_of 3) l.f3) (records_in (fields_of 8) l.f8) (records_in (fields_of 10) l.f10) l.f6 l.at l.k × PlaceIn 10 l.f10 l.tried.code × PlaceIn 8 l.f8 l.tried.stop

abbrev pub decreases-loop-at : goal.decreases-loop-at
decreases-loop-at l = length l.f6 - l.at
