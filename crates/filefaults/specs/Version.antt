-- What is seen of VerzeJDF: it has no fault.
use Rattle.std.specs.Prelude.{ℕ, ◌≤◌, ◌≡◌, List, [], length}
use Rattle.laws.specs.Numbered.{answered}
use Rattle.file.specs.Files.{longest}
use Rattle.file.specs.Records.{records_in}
use Rattle.walk.specs.Walk.{LegalFrom}
use Rattle.filefaults.specs.Faults.{version_fault}

-- VerzeJDF is not too long, legal, and one record `1.8`
pub record RightVersion (s : List ℕ) : Type 0 where
  pub short : length s ≤ longest
  pub legal : LegalFrom 1 s 0
  pub right : version_fault (records_in 1 s) ≡ answered []
