-- What is known of a file and of the part of the hint that was lent for it, when its records are looked for.
use Rattle.std.specs.Prelude.{ℕ, ◌<◌, ◌≡◌, Bool, true, List, length, ltb, None, Option, Some}
use Rattle.laws.specs.Tests.{pick, both}
use Rattle.keys.specs.Keys.{key_fields, of_trip}
use Rattle.keys.specs.Ranks.{record_at}
use Rattle.keys.specs.KeyFiles.{KeyFile, KeysRise, PlaceIn, IsIndex}

-- the file is legal and its keys are numbers; if it is said that its keys rise, they do; a part that isn't empty is an index
pub record Serves (file : ℕ) (s : List ℕ) (rises : Bool) (part : List ℕ) : Type 0 where
  pub keyed : KeyFile file s
  pub up : rises ≡ true → KeysRise file s
  pub index : 0 < length part → IsIndex file s part

-- it is asked for a key of so many numbers, and the place that is tried first is that of a record, or the end
pub record Asks (file : ℕ) (s : List ℕ) (rises : Bool) (part : List ℕ) (last count : ℕ) : Type 0 where
  pub serves : Serves file s rises part
  pub place : PlaceIn file s last
  pub numbers : length (key_fields file) ≡ count

-- the record at a place, if it is one of the trip's
unfoldable pub trip_at : ℕ → ℕ → ℕ → List ℕ → ℕ → Option ℕ
trip_at file line trip s at = pick (both (ltb at (length s)) (of_trip file line trip (record_at file s at))) (Some at) None
