-- `targets::zastavky_link` meets its contract: each arm names the link that stands there, and no other field has one.
use mathlib.Core.List.{[]}
use Rattle.link.specs.Links.{zastavky}
use Rattle.link.proofs.MatchLaws.{codes, free_below, free_past}
use Rattle.targets.proofs.zastavky_link.Goals as goal

pub returns-in-7-to-12 : goal.returns-in-7-to-12
unfolding zastavky
returns-in-7-to-12 c = codes zastavky [] 7 13 tt _ c.in-7-to-12.if-f-lt7-own.false c.in-7-to-12.if-f-lt13-own.true tt

pub returns-in_default : goal.returns-in_default
unfolding zastavky
returns-in_default c = free_below zastavky [] 7 tt _ c.in_default.if-f-lt7-own.true tt

pub returns-in_default-2 : goal.returns-in_default-2
unfolding zastavky
returns-in_default-2 c = free_past zastavky _ c.in_default.if-f-lt13-own.false
