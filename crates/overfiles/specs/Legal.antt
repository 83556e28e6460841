-- What the stages behind 2 and 3 ask of a batch: its thirteen files are legal.
use Rattle.std.specs.Prelude.{ℕ, ◌≤◌}
use Rattle.file.specs.Files.{fields_of}
use Rattle.walk.specs.Walk.{LegalFrom}
use Rattle.thirteen.specs.Batch.{Batch, file_in}

abbrev pub LegalFiles : Batch → Type 0
LegalFiles b = (file : ℕ) → 1 ≤ file → file ≤ 13 → LegalFrom (fields_of file) (file_in b file) 0
