-- `targets::zasspoje_link` meets its contract: each arm names the link that stands there, and no other field has one.
use mathlib.Core.List.{[], ◌∷◌}
use Rattle.link.specs.Links.{zasspoje}
use Rattle.link.proofs.MatchLaws.{codes, free_below, free_past}
use Rattle.targets.proofs.zasspoje_link.Goals as goal

pub returns-in-2 : goal.returns-in-2
unfolding zasspoje
returns-in-2 c = rw c.in-2.is

pub returns-in-3 : goal.returns-in-3
unfolding zasspoje
returns-in-3 c = rw c.in-3.is

pub returns-in-4 : goal.returns-in-4
unfolding zasspoje
returns-in-4 c = rw c.in-4.is

pub returns-in-6-to-7 : goal.returns-in-6-to-7
unfolding zasspoje
returns-in-6-to-7 c = codes zasspoje (4 ∷ 3 ∷ 2 ∷ []) 6 8 tt _ c.in-6-to-7.if-f-lt6-own.false c.in-6-to-7.if-f-lt8-own.true c.in-6-to-7.in_default-own.rest

pub returns-in_default : goal.returns-in_default
unfolding zasspoje
returns-in_default c = free_below zasspoje (4 ∷ 3 ∷ 2 ∷ []) 6 tt _ c.in_default.if-f-lt6-own.true c.in_default.in_default-own.rest

pub returns-in_default-2 : goal.returns-in_default-2
unfolding zasspoje
returns-in_default-2 c = free_past zasspoje _ c.in_default.if-f-lt8-own.false
