-- One look of a bisection. `lo` carries the search: the first record whose key isn't below x is the first from there on. `hi` carries nothing
-- but an end to the looks.
use Rattle.std.specs.Prelude.{ℕ, ◌-◌, ◌≤◌, ◌<◌, ◌≡◌, List, length}
use Rattle.keys.specs.KeyFiles.{KeyFile, KeysRise, PlaceIn, records_from}
use Rattle.keys.specs.Ranks.{rank_of}
use Rattle.lines.specs.Order.{first_from}

-- what a search from `from` on has passed when it comes to `at`: the first record whose key isn't below x is that from there on
pub record Sought (file : ℕ) (s : List ℕ) (x from at : ℕ) : Type 0 where
  pub place : PlaceIn file s at
  pub same : first_from (rank_of file) x at (records_from file s at) ≡ first_from (rank_of file) x from (records_from file s from)

-- what a look asks
pub record Narrows (file : ℕ) (s : List ℕ) (x lo hi mid : ℕ) : Type 0 where
  pub keyed : KeyFile file s
  pub rises : KeysRise file s
  pub going : Sought file s x 0 lo
  pub low : lo ≤ mid
  pub high : mid < hi
  pub near : hi ≤ length s

-- and what it leaves
pub record Narrowed (file : ℕ) (s : List ℕ) (x lo hi lo' hi' : ℕ) : Type 0 where
  pub going : Sought file s x 0 lo'
  pub near : hi' ≤ length s
  pub less : hi' - lo' < hi - lo
