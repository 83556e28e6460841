-- Links that were found to be met are remembered as numbers, their tags.
use Rattle.std.specs.Prelude.{ℕ, ◌≤◌, ◌<◌, ◌≡◌, true, List, length, get_or}
use Rattle.keys.specs.Keys.{none}
use Rattle.tags.specs.Tags.{tag, fine}
use Rattle.thirteen.specs.Batch.{Batch}

-- whatever a number is the tag of is so
abbrev pub Holds : Batch → ℕ → Type 0
Holds b t = (kind a x : ℕ) → a < none → x < none → t ≡ tag kind a x → fine b kind a x ≡ true

-- a table of such numbers
pub record Recalls (b : Batch) (table : List ℕ) : Type 0 where
  pub size : 4093 ≤ length table
  pub each : (i : ℕ) → Holds b (get_or table i 0)
