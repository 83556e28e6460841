-- What one pass over a file's bytes sees of the file: what the sweep's functions ask and ensure. Of what it waves away nothing is said.
use Rattle.std.specs.Prelude.{ℕ, ◌≤◌, ◌≡◌, true, List, [], drop}
use Rattle.laws.specs.Numbered.{answered}
use Rattle.file.specs.Files.{is_file, fields_of}
use Rattle.file.specs.Records.{records_in}
use Rattle.field.specs.Stage.{faults_from}
use Rattle.walk.specs.Walk.{LegalFrom}

-- n is how many fields a record of this file has
pub record Fielded (file n : ℕ) : Type 0 where
  pub file_is : is_file file ≡ true
  pub fields : n ≡ fields_of file
  pub few : n ≤ 13

-- s is legal from `at` on, and its records there have no fault, whichever number the first of them has
pub record SoundFrom (file n : ℕ) (s : List ℕ) (at : ℕ) : Type 0 where
  pub legal : LegalFrom n s at
  pub fits : (k : ℕ) → faults_from file k (records_in n (drop at s)) ≡ answered []
