-- `targets::is_permitted` meets its contract: each arm looks through its file's signs, and no other file permits any.
use mathlib.Core.Path.{◌∙◌}
use Rattle.link.specs.Signs.{permitted_signs, is_permitted}
use Rattle.link.proofs.MatchLaws.{listed, signs_in, no_signs}
use Rattle.targets.proofs.is_permitted.Goals as goal

pub returns-in-2 : goal.returns-in-2
unfolding is_permitted permitted_signs
returns-in-2 c = c.contains.ensures.value ∙ listed c.args.sign _ ∙ signs_in 2 c.args.sign c.in-2.is

pub returns-in-6 : goal.returns-in-6
unfolding is_permitted permitted_signs
returns-in-6 c = c.contains-in-6.ensures.value ∙ listed c.args.sign _ ∙ signs_in 6 c.args.sign c.in-6.is

pub returns-in-7 : goal.returns-in-7
unfolding is_permitted permitted_signs
returns-in-7 c = c.contains-in-7.ensures.value ∙ listed c.args.sign _ ∙ signs_in 7 c.args.sign c.in-7.is

pub returns-in-8 : goal.returns-in-8
unfolding is_permitted permitted_signs
returns-in-8 c = c.contains-in-8.ensures.value ∙ listed c.args.sign _ ∙ signs_in 8 c.args.sign c.in-8.is

pub returns-in-11 : goal.returns-in-11
unfolding is_permitted permitted_signs
returns-in-11 c = c.contains-in-11.ensures.value ∙ listed c.args.sign _ ∙ signs_in 11 c.args.sign c.in-11.is

pub returns-in_default : goal.returns-in_default
returns-in_default c = no_signs _ _ c.in_default.in_default-own.rest
