-- Document 01's batch order: 1 over all files, 2 and 3 over all files, 4, then 5 and 6, then 7, 8, 9, then trips in Spoje order, 10 before 11. The
-- stages are one list, and the first fault wins.
use Rattle.std.specs.Prelude.{List, [], ◌∷◌, ◌++◌}
use Rattle.laws.specs.Numbered.{Numbered}
use Rattle.thirteen.specs.Batch.{Batch}
use Rattle.filestages.specs.Order.{first_fault, file_stages}
use Rattle.link.specs.Stage.{links_fault}
use Rattle.trip.specs.Stage.{trips_fault}

-- the stages: what the files are by themselves, 1 to 6, then keys, links and signs, then trips
unfoldable pub stages : Batch → List Numbered
stages b = file_stages b ++ (links_fault b ∷ trips_fault b ∷ [])

-- the first fault of a batch
unfoldable pub fault_of : Batch → Numbered
fault_of b = first_fault (stages b)
