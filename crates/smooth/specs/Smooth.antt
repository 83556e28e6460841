-- A batch in which all keys rise and none of 1 to 9 is found, and what is shown of it on the way.
use Rattle.std.specs.Prelude.{ℕ, ◌≤◌, List, [], length}
use Rattle.file.specs.Files.{fields_of, longest}
use Rattle.keys.specs.KeyFiles.{KeysRise}
use Rattle.keys.specs.Ranks.{IsKeyed}
use Rattle.lookup.specs.Ways.{Ways}
use Rattle.sweep.specs.Sweep.{SoundFrom}
use Rattle.thirteen.specs.Batch.{Batch, thirteen, file_in}
use Rattle.thirteen.specs.declared.Files.{Files}
use Rattle.filefaults.specs.Version.{RightVersion}
use Rattle.passage.specs.Passage.{Passes}

-- a file is legal, its records have no fault, and its keys rise if it has keys
pub record Orderly (file : ℕ) (s : List ℕ) : Type 0 where
  pub sound : SoundFrom file (fields_of file) s 0
  pub rise : IsKeyed file → KeysRise file s

-- each of the files 2-13 is so
abbrev pub OrderlyFiles : Batch → Type 0
OrderlyFiles b = (file : ℕ) → 2 ≤ file → file ≤ 13 → Orderly file (file_in b file)

-- these numbers are the ways to the records of every batch whose files are so: by their keys, and by no index
abbrev pub RisingWays : List ℕ → Type 0
RisingWays ways = (b : Batch) (order : List ℕ) → OrderlyFiles b → Ways b order ways

-- a file passes beside its batch
abbrev pub Passed : Batch → ℕ → Type 0
Passed b file = Passes b file (file_in b file)

-- the files that are linked to, and in place of the others empty ones
abbrev pub targets_of : List ℕ → List ℕ → List ℕ → List ℕ → List ℕ → List ℕ → List ℕ → Batch
targets_of f1 f2 f3 f4 f5 f6 f7 = thirteen f1 f2 f3 f4 f5 f6 f7 [] [] [] [] [] []

-- those of the files that are lent
abbrev pub targets_in : Files → Batch
targets_in f =
    targets_of f.version.now f.stops.now f.codes.now f.carriers.now f.lines.now f.trips.now f.line_stops.now

-- each of them passes
abbrev pub TargetsPassed : Batch → Type 0
TargetsPassed b = (file : ℕ) → 2 ≤ file → file ≤ 7 → Passed b file

-- each of the files 2-13 does
abbrev pub AllPassed : Batch → Type 0
AllPassed b = (file : ℕ) → 2 ≤ file → file ≤ 13 → Passed b file

-- no file is too long
abbrev pub ShortFiles : Batch → Type 0
ShortFiles b = (file : ℕ) → 2 ≤ file → file ≤ 13 → length (file_in b file) ≤ longest

-- VerzeJDF is right, each of the files 2-13 is short enough and passes, and these are the ways to its records
pub record Smooth (b : Batch) (order ways : List ℕ) : Type 0 where
  pub version : RightVersion (file_in b 1)
  pub short : ShortFiles b
  pub passed : AllPassed b
  pub routes : Ways b order ways
