-- `dated::rank_of` meets its contract: a date's parts are small, so nothing wraps.
use native.Mathlib.Omega.{arith}
use Rattle.field.proofs.ValueLaws.{date_digits}
use Rattle.dated.proofs.DateLaws.{year_digits, parts_most}
use Rattle.dated.proofs.rank_of.Goals as goal

pub digits_at-requires : goal.digits_at-requires
digits_at-requires c = let d = date_digits _ c.requires in (d.digits, omega arith, omega arith)

pub overflow_mul-result : goal.overflow_mul-result
overflow_mul-result c =
    let e = c.requires in
    let b = parts_most _ e in
    omega (arith, year_digits _ e, c.digits_at.ensures)

pub digits_at-requires-2 : goal.digits_at-requires-2
digits_at-requires-2 c = let d = date_digits _ c.requires in (d.digits, omega arith, omega arith)

pub overflow_mul-result-2 : goal.overflow_mul-result-2
overflow_mul-result-2 c = let b = parts_most _ c.requires in omega (arith, c.digits_at-2.ensures)

pub overflow_add-result : goal.overflow_add-result
overflow_add-result c =
    let e = c.requires in
    let b = parts_most _ e in
    omega (arith, year_digits _ e, c.digits_at.ensures, c.digits_at-2.ensures)

pub digits_at-requires-3 : goal.digits_at-requires-3
digits_at-requires-3 c = let d = date_digits _ c.requires in (d.digits, omega arith, omega arith)

pub overflow_add-result-2 : goal.overflow_add-result-2
overflow_add-result-2 c =
    let e = c.requires in
    let b = parts_most _ e in
    omega (arith, year_digits _ e, c.digits_at.ensures, c.digits_at-2.ensures, c.digits_at-3.ensures)

pub returns : goal.returns
returns c =
    let e = c.requires in
    rw (c.digits_at.ensures, c.digits_at-2.ensures, c.digits_at-3.ensures, year_digits _ e)
