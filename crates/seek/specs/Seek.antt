-- The first entry of an index whose key isn't below one that is sought, and what a search knows of it on its way.
use Rattle.std.specs.Prelude.{ℕ, ◌≤◌, ◌<◌, List, length}
use Rattle.keys.specs.KeyFiles.{entry_rank}

-- entry m is the first whose key isn't below x
pub record Lower (file : ℕ) (s order : List ℕ) (x m : ℕ) : Type 0 where
  pub near : m ≤ length order
  pub below : (i : ℕ) → i < m → entry_rank file s order i < x
  pub «from» : m < length order → x ≤ entry_rank file s order m

-- that entry is none before lo and none behind hi
pub record Between (file : ℕ) (s order : List ℕ) (x lo hi : ℕ) : Type 0 where
  pub ends : lo ≤ hi
  pub near : hi ≤ length order
  pub below : (i : ℕ) → i < lo → entry_rank file s order i < x
  pub «from» : hi < length order → x ≤ entry_rank file s order hi
