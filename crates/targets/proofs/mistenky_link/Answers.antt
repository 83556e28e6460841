-- `targets::mistenky_link` meets its contract: each arm names the link that stands there, and no other field has one.
use mathlib.Core.List.{[], ◌∷◌}
use Rattle.link.specs.Links.{mistenky}
use Rattle.link.proofs.MatchLaws.{free_else}
use Rattle.targets.proofs.mistenky_link.Goals as goal

pub returns-in-1 : goal.returns-in-1
unfolding mistenky
returns-in-1 c = rw c.in-1.is

pub returns-in-2 : goal.returns-in-2
unfolding mistenky
returns-in-2 c = rw c.in-2.is

pub returns-in_default : goal.returns-in_default
unfolding mistenky
returns-in_default c = free_else mistenky (2 ∷ 1 ∷ []) tt _ c.in_default.in_default-own.rest
