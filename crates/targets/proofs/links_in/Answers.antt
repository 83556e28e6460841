-- `targets::links_in` meets its contract: each arm is the size of a file's list of links.
use Rattle.link.specs.Links.{links, links_in, zastavky, linky, spoje, zaslinky, zasspoje, udaje, caskody, altdop, altlinky, mistenky}
use Rattle.link.proofs.MatchLaws.{count_in, no_count}
use Rattle.targets.proofs.links_in.Goals as goal

pub returns-in-2 : goal.returns-in-2
unfolding links_in links zastavky
returns-in-2 c = count_in 2 c.in-2.is

pub returns-in-5 : goal.returns-in-5
unfolding links_in links linky
returns-in-5 c = count_in 5 c.in-5.is

pub returns-in-6 : goal.returns-in-6
unfolding links_in links spoje
returns-in-6 c = count_in 6 c.in-6.is

pub returns-in-7 : goal.returns-in-7
unfolding links_in links zaslinky
returns-in-7 c = count_in 7 c.in-7.is

pub returns-in-8 : goal.returns-in-8
unfolding links_in links zasspoje
returns-in-8 c = count_in 8 c.in-8.is

pub returns-in-9 : goal.returns-in-9
unfolding links_in links udaje
returns-in-9 c = count_in 9 c.in-9.is

pub returns-in-10 : goal.returns-in-10
unfolding links_in links caskody
returns-in-10 c = count_in 10 c.in-10.is

pub returns-in-11 : goal.returns-in-11
unfolding links_in links altdop
returns-in-11 c = count_in 11 c.in-11.is

pub returns-in-12 : goal.returns-in-12
unfolding links_in links altlinky
returns-in-12 c = count_in 12 c.in-12.is

pub returns-in-13 : goal.returns-in-13
unfolding links_in links mistenky
returns-in-13 c = count_in 13 c.in-13.is

pub returns-in_default : goal.returns-in_default
returns-in_default c = no_count _ c.in_default.in_default-own.rest
