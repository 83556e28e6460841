-- `dated::digits_at` meets its contract: a part of digits is digits, and this one has n.
use mathlib.Core.Path.{◌≡◌, ◌∙◌}
use Prim.Native.Nat.{◌+◌, ◌-◌}
use native.Mathlib.Omega.{arith}
use lib.ListN.{drop, length-take, length-drop}
use Rattle.field.proofs.ValueLaws.{digits_take, digits_drop}
use Rattle.dated.proofs.digits_at.Goals as goal

pub value_of-requires : goal.value_of-requires
value_of-requires c =
    let t = c.args.t.now in
    (digits_take (drop c.args.at t) (c.args.at + c.args.n - c.args.at) (digits_drop t c.args.at c.requires.0), simp (length-take, length-drop) (omega (arith, c.requires.2)))

pub returns : goal.returns
returns c =
    let a = c.args in
    let e : a.at + a.n - a.at ≡ a.n = omega arith in
    c.value_of.ensures ∙ rw e
