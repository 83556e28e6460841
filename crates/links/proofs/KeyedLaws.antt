-- A sound batch's keyed files, 2-10, can be looked into by key: they are legal, and the keys of their records are numbers.
use mathlib.Core.Path.{◌≡◌}
use mathlib.Core.List.{List, [], ◌∷◌}
use Prim.Native.Nat.{ℕ, suc, ◌<◌}
use native.Mathlib.Omega.{arith}
use lib.ListN.{length, get_or}
use Rattle.file.specs.Files.{fields_of}
use Rattle.file.specs.Format.{Fields}
use Rattle.keys.specs.Ranks.{AllKeyed, IsKeyed}
use Rattle.keys.specs.KeyFiles.{KeyFile}
use Rattle.link.proofs.KindOfLinks.{keyed_kinds}
use Rattle.link.proofs.TableLaws.{record_length}
use Rattle.lookup.specs.Ways.{KeyFiles}
use Rattle.thirteen.specs.Batch.{Batch, file_in, records_of}
use Rattle.amiss.specs.Sound.{SoundFile, SoundFiles, AllOfKind}
use Rattle.amiss.proofs.SoundLaws.{sound_kinds}

-- records of their kinds, with as many fields as their file's, have numbers in their keys
kinds_keyed : (file : ℕ) (rs : List Fields) → AllOfKind file rs → ((i : ℕ) → i < length rs → length (get_or rs i []) ≡ fields_of file) → AllKeyed file rs
unfolding AllOfKind AllKeyed
kinds_keyed file [] a n = tt
kinds_keyed file (r ∷ rs) a n =
    (keyed_kinds file r a.0 (n 0 (omega arith)), kinds_keyed file rs a.1 (λ i h. n (suc i) (omega arith)))

-- a keyed file that was checked for itself
pub sound_key : (b : Batch) (file : ℕ) → IsKeyed file → SoundFile b file → KeyFile file (file_in b file)
sound_key b file k s =
    record {
      keyed = k;
      legal = s.legal;
      keys = kinds_keyed file (records_of b file) (sound_kinds b file s) (record_length (fields_of file) (file_in b file));
    }

-- all of them
pub sound_keys : (b : Batch) → SoundFiles b → KeyFiles b
sound_keys b s file k = sound_key b file k (s file k.0 (omega (arith, k.1)))
