-- `targets::altlinky_link` meets its contract: each arm names the link that stands there, and no other field has one.
use mathlib.Core.List.{[], ◌∷◌}
use Rattle.link.specs.Links.{altlinky}
use Rattle.link.proofs.MatchLaws.{free_else}
use Rattle.targets.proofs.altlinky_link.Goals as goal

pub returns-in-1 : goal.returns-in-1
unfolding altlinky
returns-in-1 c = rw c.in-1.is

pub returns-in_default : goal.returns-in_default
unfolding altlinky
returns-in_default c = free_else altlinky (1 ∷ []) tt _ c.in_default.in_default-own.rest
