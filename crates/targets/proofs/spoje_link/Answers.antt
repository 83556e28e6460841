-- `targets::spoje_link` meets its contract: each arm names the link that stands there, and no other field has one.
use mathlib.Core.List.{[], ◌∷◌}
use Rattle.link.specs.Links.{spoje}
use Rattle.link.proofs.MatchLaws.{codes, free_below, free_past}
use Rattle.targets.proofs.spoje_link.Goals as goal

pub returns-in-1 : goal.returns-in-1
unfolding spoje
returns-in-1 c = rw c.in-1.is

pub returns-in-3-to-12 : goal.returns-in-3-to-12
unfolding spoje
returns-in-3-to-12 c = codes spoje (1 ∷ []) 3 13 tt _ c.in-3-to-12.if-f-lt3-own.false c.in-3-to-12.if-f-lt13-own.true c.in-3-to-12.in_default-own.rest

pub returns-in_default : goal.returns-in_default
unfolding spoje
returns-in_default c = free_below spoje (1 ∷ []) 3 tt _ c.in_default.if-f-lt3-own.true c.in_default.in_default-own.rest

pub returns-in_default-2 : goal.returns-in_default-2
unfolding spoje
returns-in_default-2 c = free_past spoje _ c.in_default.if-f-lt13-own.false
