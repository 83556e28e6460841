-- `entries::place_of` meets its contract, case by case.
use Rattle.std.specs.Prelude.{ℕ, ◌≡◌, refl, List, length, Option, Some, None}
use Rattle.std.specs.Option.{unwrap_or}
use mathlib.Core.Path.{◌∙◌}
use Rattle.trail.specs.Trail.{place_of}
use Rattle.entries.proofs.place_of.Goals as goal

or_end : (s : List ℕ) (found : Option ℕ) → unwrap_or found (length s) ≡ place_of s found
unfolding place_of
or_end s (Some at) = refl
or_end s None = refl

pub returns : goal.returns
returns c = c.unwrap_or.ensures ∙ or_end _ _
