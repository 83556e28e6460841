-- What a file is that was gone through once: sound for itself, its keys rise, and its records are met in a batch g, of which it need be no part.
use Rattle.std.specs.Prelude.{ℕ, ◌<◌, ◌≡◌, List, [], length, get_or}
use Rattle.file.specs.Files.{fields_of}
use Rattle.file.specs.Format.{Fields}
use Rattle.file.specs.Records.{records_in}
use Rattle.keys.specs.KeyFiles.{KeysRise}
use Rattle.keys.specs.Ranks.{IsKeyed}
use Rattle.sweep.specs.Sweep.{SoundFrom}
use Rattle.link.specs.Stage.{field_amiss}
use Rattle.thirteen.specs.Batch.{Batch}

-- nothing is wrong with any link or sign of these records, looked up in g
abbrev pub AllMet : Batch → ℕ → List Fields → Type 0
AllMet g file rs = (i : ℕ) → i < length rs → field_amiss g file (get_or rs i []) ≡ 0

-- the file passes
pub record Passes (g : Batch) (file : ℕ) (s : List ℕ) : Type 0 where
  pub sound : SoundFrom file (fields_of file) s 0
  pub rise : IsKeyed file → KeysRise file s
  pub fits : AllMet g file (records_in (fields_of file) s)
