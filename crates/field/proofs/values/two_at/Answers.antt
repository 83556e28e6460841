-- `field::values::two_at` meets its contract: a part of digits is digits, and this one has two.
use mathlib.Core.Path.{◌≡◌, ◌∙◌}
use Prim.Native.Nat.{◌+◌, ◌-◌}
use native.Mathlib.Omega.{arith}
use lib.ListN.{drop, length-take, length-drop}
use Rattle.field.proofs.ValueLaws.{digits_take, digits_drop}
use Rattle.field.proofs.values.two_at.Goals as goal

pub value_of-requires : goal.value_of-requires
value_of-requires c =
    let t = c.args.t.now in
    (digits_take (drop c.args.at t) (c.args.at + 2 - c.args.at) (digits_drop t c.args.at c.requires.0), simp (length-take, length-drop) (omega arith))

pub returns : goal.returns
returns c =
    let at = c.args.at in
    let e : at + 2 - at ≡ 2 = omega arith in
    c.value_of.ensures ∙ rw e
