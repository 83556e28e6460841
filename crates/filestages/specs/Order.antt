-- Document 01's refusals 1 to 6, as stages: 1 over all files, 2 and 3 over all files, 4, then 5 and 6. What each file is by itself.
use Rattle.std.specs.Prelude.{List, [], ◌∷◌}
use Rattle.laws.specs.Numbered.{Numbered, answered}
use Rattle.field.specs.Stage.{field_fault}
use Rattle.thirteen.specs.Batch.{Batch, records_of, or_else, over_files}
use Rattle.filefaults.specs.Faults.{version_fault}
use Rattle.overfiles.specs.OneFile.{length_fault, bytes_fault}

-- the first of several faults wins
unfoldable pub first_fault : List Numbered → Numbered
first_fault [] = answered []
first_fault (a ∷ next) = or_else a (first_fault next)

-- what the files are by themselves: the first four stages of the batch's
unfoldable pub file_stages : Batch → List Numbered
file_stages b =
    over_files (length_fault b) 1 13
    ∷ over_files (bytes_fault b) 1 13
    ∷ version_fault (records_of b 1)
    ∷ over_files (λ file. field_fault file (records_of b file)) 2 12
    ∷ []
