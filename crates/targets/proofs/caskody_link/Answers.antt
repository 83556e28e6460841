-- `targets::caskody_link` meets its contract: each arm names the link that stands there, and no other field has one.
use mathlib.Core.List.{[], ◌∷◌}
use Rattle.link.specs.Links.{caskody}
use Rattle.link.proofs.MatchLaws.{free_else}
use Rattle.targets.proofs.caskody_link.Goals as goal

pub returns-in-2 : goal.returns-in-2
unfolding caskody
returns-in-2 c = rw c.in-2.is

pub returns-in_default : goal.returns-in_default
unfolding caskody
returns-in_default c = free_else caskody (2 ∷ []) tt _ c.in_default.in_default-own.rest
