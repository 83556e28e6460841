-- What is asked of a file whose records are found by their keys: it is legal, and each of its records has numbers in its key.
use Rattle.std.specs.Prelude.{ℕ, List, get_or, drop}
use Rattle.file.specs.Files.{fields_of}
use Rattle.file.specs.Format.{Fields}
use Rattle.file.specs.Records.{records_in}
use Rattle.walk.specs.Walk.{LegalFrom}
use Rattle.lines.specs.Lines.{Place}
use Rattle.lines.specs.Order.{Rising}
use Rattle.lines.specs.Index.{Index, rank_at}
use Rattle.keys.specs.Ranks.{IsKeyed, AllKeyed, rank_of}

pub record KeyFile (file : ℕ) (s : List ℕ) : Type 0 where
  pub keyed : IsKeyed file
  pub legal : LegalFrom (fields_of file) s 0
  pub keys : AllKeyed file (records_in (fields_of file) s)

-- its records from a place on
abbrev pub records_from : ℕ → List ℕ → ℕ → List Fields
records_from file s at = records_in (fields_of file) (drop at s)

-- its keys rise from record to record
abbrev pub KeysRise : ℕ → List ℕ → Type 0
KeysRise file s = Rising (rank_of file) (records_in (fields_of file) s)

-- a record of it starts at this place, or it ends there
abbrev pub PlaceIn : ℕ → List ℕ → ℕ → Type 0
PlaceIn file s at = Place (fields_of file) s at

-- a list of places is an index of it by its keys
abbrev pub IsIndex : ℕ → List ℕ → List ℕ → Type 0
IsIndex file s order = Index (fields_of file) (rank_of file) s order

-- the key at entry i of such a list, as a rank
abbrev pub entry_rank : ℕ → List ℕ → List ℕ → ℕ → ℕ
entry_rank file s order i = rank_at (fields_of file) (rank_of file) s (get_or order i 0)
