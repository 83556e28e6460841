-- How far a file that was read into a buffer reaches.
use Rattle.std.specs.Prelude.{ℕ, ◌≤◌, Option, Some, None}

-- a file that was read from `at` on ends in the buffer
abbrev pub Reached : ℕ → ℕ → Option ℕ → Type 0
Reached at size (Some next) = (at ≤ next) × (next ≤ size)
Reached at size None = Unit
