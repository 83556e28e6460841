-- `field::values::value_of` meets its contract. The loop's invariant: what is left, after digits worth `v`, is worth what the whole
-- is; what is left is digits, and those passed are worth less than 10 to their number, so no sum wraps.
use mathlib.Core.Path.{sym, ◌∙◌}
use Prim.Native.Nat.{◌-◌}
use native.Mathlib.Omega.{arith}
use lib.ListN.{get_or}
use Rattle.field.proofs.ValueLaws.{digit_bounds, first_digit, other_digits, value_next, value_done, power_next, power_most}
use Rattle.field.proofs.values.value_of.Goals as goal

pub overflow_mul-v : goal.overflow_mul-v
overflow_mul-v c = omega (arith, power_most c.loop-b.b-index 17 (omega (arith, c.requires.1)))

pub overflow_sub-v : goal.overflow_sub-v
overflow_sub-v c =
    let d = digit_bounds _ (first_digit c.args.t.now c.loop-b.b-index c.loop-b-test.true c.loop-b.invariant.1) in
    omega arith

pub overflow_add-v : goal.overflow_add-v
overflow_add-v c =
    let d = digit_bounds _ (first_digit c.args.t.now c.loop-b.b-index c.loop-b-test.true c.loop-b.invariant.1) in
    omega (arith, power_most c.loop-b.b-index 17 (omega (arith, c.requires.1)))

pub loop-b-preserved : goal.loop-b-preserved
loop-b-preserved c =
    let t = c.args.t.now in
    let v = c.loop-b.v in
    let i = c.loop-b.b-index in
    let h = c.loop-b-test.true in
    let d = digit_bounds _ (first_digit t i h c.loop-b.invariant.1) in
    (sym (value_next t i h v) ∙ c.loop-b.invariant.0, other_digits t i h c.loop-b.invariant.1, power_next i v (get_or t i 0 - 48) c.loop-b.invariant.2 (omega arith))

pub returns : goal.returns
returns c = sym (value_done _ _ _ c.loop-b-test.false) ∙ c.loop-b.invariant.0
