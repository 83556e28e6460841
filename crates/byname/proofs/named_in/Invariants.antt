-- `byname::named_in` meets its contract. The loop's invariant: what is counted from the record at `at` on is what is counted in all.
use mathlib.Core.Path.{◌≡◌}
use Prim.Native.Nat.{◌-◌, ◌≤◌}
use lib.ListN.{length, drop}
use Rattle.file.specs.Files.{fields_of}
use Rattle.file.specs.Records.{records_in}
use Rattle.keys.specs.KeyFiles.{PlaceIn}
use Rattle.byname.specs.Counting.{count_on}
use Rattle.byname.proofs.named_in.Given as goal

abbrev pub invariant-loop-at : goal.invariant-loop-at
invariant-loop-at l = (l.found ≤ l.at) × PlaceIn 2 l.f2 l.at
    × (count_on l.town l.part l.place l.found l.first (records_in (fields_of 2) (drop l.at l.f2)) ≡ count_on l.town l.part l.place 0 0 (records_in (fields_of 2) l.f2))

abbrev pub decreases-loop-at : goal.decreases-loop-at
decreases-loop-at l = length l.f2 - l.at
