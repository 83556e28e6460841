-- `field::values::minute_of` meets its contract: a time's hour and minute are small, so nothing wraps.
use native.Mathlib.Omega.{arith}
use Rattle.field.specs.Values.{minute_of}
use Rattle.field.proofs.ValueLaws.{time_digits, time_bounds}
use Rattle.field.proofs.values.minute_of.Goals as goal

pub two_at-requires : goal.two_at-requires
two_at-requires c = let d = time_digits _ c.requires in (d.digits, omega arith)

pub overflow_mul-result : goal.overflow_mul-result
overflow_mul-result c = let b = time_bounds _ c.requires in omega (arith, c.two_at.ensures)

pub rest_at-requires : goal.rest_at-requires
rest_at-requires c = let d = time_digits _ c.requires in (d.digits, omega arith, omega arith)

pub overflow_add-result : goal.overflow_add-result
overflow_add-result c =
    let b = time_bounds _ c.requires in
    omega (arith, c.two_at.ensures, c.rest_at.ensures)

pub returns : goal.returns
unfolding minute_of
returns c = rw (c.two_at.ensures, c.rest_at.ensures)
