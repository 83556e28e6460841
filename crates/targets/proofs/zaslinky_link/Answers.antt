-- `targets::zaslinky_link` meets its contract: each arm names the link that stands there, and no other field has one.
use mathlib.Core.List.{[], ◌∷◌}
use Rattle.link.specs.Links.{zaslinky}
use Rattle.link.proofs.MatchLaws.{codes, free_below, free_past}
use Rattle.targets.proofs.zaslinky_link.Goals as goal

pub returns-in-1 : goal.returns-in-1
unfolding zaslinky
returns-in-1 c = rw c.in-1.is

pub returns-in-4 : goal.returns-in-4
unfolding zaslinky
returns-in-4 c = rw c.in-4.is

pub returns-in-5-to-7 : goal.returns-in-5-to-7
unfolding zaslinky
returns-in-5-to-7 c = codes zaslinky (4 ∷ 1 ∷ []) 4 8 tt _ c.in-5-to-7.if-f-lt4-own.false c.in-5-to-7.if-f-lt8-own.true c.in-5-to-7.in_default-own.rest

pub returns-in_default : goal.returns-in_default
unfolding zaslinky
returns-in_default c = free_below zaslinky (4 ∷ 1 ∷ []) 4 tt _ c.in_default.if-f-lt4-own.true c.in_default.in_default-own.rest

pub returns-in_default-2 : goal.returns-in_default-2
unfolding zaslinky
returns-in_default-2 c = free_past zaslinky _ c.in_default.if-f-lt8-own.false
