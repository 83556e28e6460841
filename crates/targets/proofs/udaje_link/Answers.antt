-- `targets::udaje_link` meets its contract: each arm names the link that stands there, and no other field has one.
use mathlib.Core.List.{[], ◌∷◌}
use Rattle.link.specs.Links.{udaje}
use Rattle.link.proofs.MatchLaws.{free_else}
use Rattle.targets.proofs.udaje_link.Goals as goal

pub returns-in-1 : goal.returns-in-1
unfolding udaje
returns-in-1 c = rw c.in-1.is

pub returns-in_default : goal.returns-in_default
unfolding udaje
returns-in_default c = free_else udaje (1 ∷ []) tt _ c.in_default.in_default-own.rest
