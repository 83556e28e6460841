-- `field::values::rest_at` meets its contract: what is left of digits is digits, and a part that goes to the end is the rest.
use mathlib.Core.Path.{◌∙◌}
use native.Mathlib.Omega.{arith}
use lib.ListN.{length-drop}
use Rattle.laws.specs.Splice.{mid_all}
use Rattle.field.proofs.ValueLaws.{digits_drop}
use Rattle.field.proofs.values.rest_at.Goals as goal

pub value_of-requires : goal.value_of-requires
value_of-requires c =
    let t = c.args.t.now in
    rw (mid_all t c.args.at) (digits_drop t c.args.at c.requires.0, simp length-drop (omega arith))

pub returns : goal.returns
returns c =
    c.value_of.ensures ∙ rw (mid_all c.args.t.now c.args.at)
