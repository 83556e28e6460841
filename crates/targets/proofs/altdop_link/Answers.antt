-- `targets::altdop_link` meets its contract: each arm names the link that stands there, and no other field has one.
use mathlib.Core.List.{[], ◌∷◌}
use Rattle.link.specs.Links.{altdop}
use Rattle.link.proofs.MatchLaws.{codes, free_below, free_past}
use Rattle.targets.proofs.altdop_link.Goals as goal

pub returns-in-2 : goal.returns-in-2
unfolding altdop
returns-in-2 c = rw c.in-2.is

pub returns-in-3 : goal.returns-in-3
unfolding altdop
returns-in-3 c = rw c.in-3.is

pub returns-in-4-to-9 : goal.returns-in-4-to-9
unfolding altdop
returns-in-4-to-9 c = codes altdop (3 ∷ 2 ∷ []) 2 10 tt _ c.in-4-to-9.if-f-lt2-own.false c.in-4-to-9.if-f-lt10-own.true c.in-4-to-9.in_default-own.rest

pub returns-in_default : goal.returns-in_default
unfolding altdop
returns-in_default c = free_below altdop (3 ∷ 2 ∷ []) 2 tt _ c.in_default.if-f-lt2-own.true c.in_default.in_default-own.rest

pub returns-in_default-2 : goal.returns-in_default-2
unfolding altdop
returns-in_default-2 c = free_past altdop _ c.in_default.if-f-lt10-own.false
