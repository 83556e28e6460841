-- What the stage of keys, links and signs asks of a batch: its files 2-13 are legal, and neither 5 nor 6 is found in them.
use Rattle.std.specs.Prelude.{ℕ, ◌≤◌, ◌<◌, ◌≡◌, Bool, true, List, [], ◌∷◌, length, get_or}
use Rattle.laws.specs.Numbered.{answered}
use Rattle.file.specs.Files.{fields_of}
use Rattle.file.specs.Format.{Fields}
use Rattle.walk.specs.Walk.{LegalFrom}
use Rattle.field.specs.Names.{field}
use Rattle.field.specs.Stage.{first_unkind, field_fault}
use Rattle.field.specs.Values.{value}
use Rattle.keys.specs.Keys.{has}
use Rattle.rules.specs.Texts.{Kinded}
use Rattle.file.specs.Records.{records_in}
use Rattle.keys.specs.KeyFiles.{PlaceIn}
use Rattle.keys.specs.Ranks.{IsKeyed, record_at}
use Rattle.link.specs.Stage.{is_used}
use Rattle.lookup.specs.Ways.{Looks, Way, how_of, from_of, to_of}
use Rattle.thirteen.specs.Batch.{Batch, file_in, records_of}

-- a file that was checked for itself
pub record SoundFile (b : Batch) (file : ℕ) : Type 0 where
  pub legal : LegalFrom (fields_of file) (file_in b file) 0
  pub fields : field_fault file (records_of b file) ≡ answered []

abbrev pub SoundFiles : Batch → Type 0
SoundFiles b = (file : ℕ) → 2 ≤ file → file ≤ 13 → SoundFile b file

-- no field of these records is of another kind than its own
unfoldable pub AllOfKind : ℕ → List Fields → Type 0
AllOfKind file [] = Unit
AllOfKind file (r ∷ rs) = (first_unkind file 1 r ≡ 0) × AllOfKind file rs

-- the stop of every Zaslinky record is met: file 7 comes before file 8
abbrev pub StopsMet : Batch → Type 0
StopsMet b = (i : ℕ) → i < length (records_of b 7) → has 2 (value (field 4 (get_or (records_of b 7) i [])) ∷ []) (records_of b 2) ≡ true

-- what is known where a record of this file is looked at
pub record Known (b : Batch) (file : ℕ) (order ways last : List ℕ) : Type 0 where
  pub sound : SoundFiles b
  pub looks : Looks b order ways last
  pub stops : file ≡ 8 → StopsMet b

-- and of the record
pub record Record (b : Batch) (file : ℕ) (s places order ways last : List ℕ) : Type 0 where
  pub known : Known b file order ways last
  pub kinded : Kinded file s places

-- the records of a file by itself are of their kinds
abbrev pub OfKind : ℕ → List ℕ → Type 0
OfKind file s = AllOfKind file (records_in (fields_of file) s)

-- what is asked of the place of a record, to see whether its key is used: in a keyed file, the way to its records
pub record UsedAsked (file : ℕ) (s : List ℕ) (at : ℕ) (order ways : List ℕ) : Type 0 where
  pub low : 2 ≤ file
  pub size : 33 ≤ length ways
  pub way : IsKeyed file → Way file s order (how_of ways file) (from_of ways file) (to_of ways file)
  pub place : PlaceIn file s at
  pub more : at < length s

-- the answer, where `past` are the records before it
abbrev pub Used : ℕ → List ℕ → ℕ → Bool → Type 0
Used file s at r = (p : PlaceIn file s at) → r ≡ is_used file p.past (record_at file s at)
