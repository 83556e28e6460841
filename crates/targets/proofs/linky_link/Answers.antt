-- `targets::linky_link` meets its contract: each arm names the link that stands there, and no other field has one.
use mathlib.Core.List.{[], ◌∷◌}
use Rattle.link.specs.Links.{linky}
use Rattle.link.proofs.MatchLaws.{free_else}
use Rattle.targets.proofs.linky_link.Goals as goal

pub returns-in-3 : goal.returns-in-3
unfolding linky
returns-in-3 c = rw c.in-3.is

pub returns-in_default : goal.returns-in_default
unfolding linky
returns-in_default c = free_else linky (3 ∷ []) tt _ c.in_default.in_default-own.rest
