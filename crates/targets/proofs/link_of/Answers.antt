-- `targets::link_of` meets its contract: each arm calls the match of its file, and no other file has links.
use mathlib.Core.Path.{◌∙◌}
use Rattle.link.specs.Links.{links, link_of}
use Rattle.link.proofs.MatchLaws.{in_file, no_file}
use Rattle.targets.proofs.link_of.Goals as goal

pub returns-in-2 : goal.returns-in-2
unfolding link_of links
returns-in-2 c = c.zastavky_link.ensures ∙ in_file 2 c.args.f c.in-2.is

pub returns-in-5 : goal.returns-in-5
unfolding link_of links
returns-in-5 c = c.linky_link.ensures ∙ in_file 5 c.args.f c.in-5.is

pub returns-in-6 : goal.returns-in-6
unfolding link_of links
returns-in-6 c = c.spoje_link.ensures ∙ in_file 6 c.args.f c.in-6.is

pub returns-in-7 : goal.returns-in-7
unfolding link_of links
returns-in-7 c = c.zaslinky_link.ensures ∙ in_file 7 c.args.f c.in-7.is

pub returns-in-8 : goal.returns-in-8
unfolding link_of links
returns-in-8 c = c.zasspoje_link.ensures ∙ in_file 8 c.args.f c.in-8.is

pub returns-in-9 : goal.returns-in-9
unfolding link_of links
returns-in-9 c = c.udaje_link.ensures ∙ in_file 9 c.args.f c.in-9.is

pub returns-in-10 : goal.returns-in-10
unfolding link_of links
returns-in-10 c = c.caskody_link.ensures ∙ in_file 10 c.args.f c.in-10.is

pub returns-in-11 : goal.returns-in-11
unfolding link_of links
returns-in-11 c = c.altdop_link.ensures ∙ in_file 11 c.args.f c.in-11.is

pub returns-in-12 : goal.returns-in-12
unfolding link_of links
returns-in-12 c = c.altlinky_link.ensures ∙ in_file 12 c.args.f c.in-12.is

pub returns-in-13 : goal.returns-in-13
unfolding link_of links
returns-in-13 c = c.mistenky_link.ensures ∙ in_file 13 c.args.f c.in-13.is

pub returns-in_default : goal.returns-in_default
returns-in_default c = no_file _ _ c.in_default.in_default-own.rest
