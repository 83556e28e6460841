-- Keys that rise from record to record.
use Rattle.std.specs.Prelude.{ℕ, ◌<◌, ◌≡◌}
use Rattle.file.specs.Format.{Fields}
use Rattle.keys.specs.Keys.{none}
use Rattle.keys.specs.Ranks.{IsKeyed, rank_of, rank_key}
use Rattle.keys.specs.declared.Key.{Key}

-- k is the record's key, if its file has keys, and may be compared
pub record KeyFor (file : ℕ) (r : Fields) (k : Key) : Type 0 where
  pub low : k.lo < none
  pub rank : IsKeyed file → rank_key k ≡ rank_of file r

-- the record at this place may have the key k: it is above the last one, if there is one before it and the file has keys
abbrev pub Follows : ℕ → ℕ → Key → Key → Type 0
Follows file at last k = IsKeyed file → (at ≡ 0 → ⊥) → rank_key last < rank_key k
