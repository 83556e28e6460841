-- What the sweep over the files sees: none of them has a fault of its own.
use Rattle.std.specs.Prelude.{ℕ, ◌≤◌, List, length}
use Rattle.file.specs.Files.{fields_of, longest}
use Rattle.sweep.specs.Sweep.{SoundFrom}
use Rattle.thirteen.specs.Batch.{Batch, file_in}

-- a file is not too long, legal, and its records have no fault
pub record SweptFile (file : ℕ) (s : List ℕ) : Type 0 where
  pub short : length s ≤ longest
  pub sound : SoundFrom file (fields_of file) s 0

-- each of the files 2-13 is so
abbrev pub SweptFiles : Batch → Type 0
SweptFiles b = (file : ℕ) → 2 ≤ file → file ≤ 13 → SweptFile file (file_in b file)
