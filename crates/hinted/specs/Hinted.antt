-- What is known of a lent list once it was looked at: whether it is an index of the file, and whether the keys of its entries rise without
-- a repeat, so that no two records have one key.
use Rattle.std.specs.Prelude.{ℕ, ◌+◌, ◌*◌, ◌^◌, ◌≤◌, ◌<◌, List, length}
use Rattle.keys.specs.KeyFiles.{IsIndex, entry_rank}

-- each entry's key is above that of the entry before
abbrev pub KeysApart : ℕ → List ℕ → List ℕ → Type 0
KeysApart file s order = (i : ℕ) → i + 1 < length order → entry_rank file s order i < entry_rank file s order (i + 1)

-- how a record of rank k at x goes behind one of rank j at w: from 1 on it goes behind it by rank and place, from 2 on by rank alone
pub record Goes (j w k x how : ℕ) : Type 0 where
  pub behind : 1 ≤ how → j * 2 ^ 32 + w < k * 2 ^ 32 + x
  pub above : 2 ≤ how → j < k

-- what the look at a list says: 0 nothing, 1 that it is an index, 2 that besides no two keys are the same
pub record Looked (file : ℕ) (s order : List ℕ) (kind : ℕ) : Type 0 where
  pub index : 1 ≤ kind → IsIndex file s order
  pub apart : 2 ≤ kind → KeysApart file s order
