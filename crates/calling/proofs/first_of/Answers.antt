-- `calling::first_of` meets its contract: an odd trip number's walk begins upward, at 0, and an even one's downward, at a thousand million.
use Rattle.calling.specs.Calling.{first_place}
use Rattle.coded.proofs.LeftLaws.{walks}
use Rattle.calling.proofs.CallingLaws.{three_numbers}
use Rattle.calling.proofs.first_of.Goals as goal

pub first_step-requires : goal.first_step-requires
first_step-requires c =
    let a = c.args in
    let p = c.requires in
    (walks 8 a.f8.now a.paths.order.now a.paths.ways.now p.0 three_numbers a.last p.1, p.2, p.3)

pub returns : goal.returns
unfolding first_place
returns c = c.first_step.ensures
