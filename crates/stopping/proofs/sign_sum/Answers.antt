-- `stopping::sign_sum` meets its contract: each sign that is there adds its weight.
use native.Mathlib.Omega.{arith}
use Rattle.file.specs.Files.{fields_of}
use Rattle.file.specs.Records.{records_in}
use Rattle.rules.specs.Texts.{texts}
use Rattle.marks.specs.Marks.{plain_signs}
use Rattle.stopping.proofs.StoppingLaws.{weight_most, sum_is}
use Rattle.stopping.proofs.sign_sum.Goals as goal

pub stop_has-requires-5 : goal.stop_has-requires-5
stop_has-requires-5 c =
    let p = c.requires in
    (λ z. omega arith, p.0, p.1, p.2)

pub overflow_add-result : goal.overflow_add-result
overflow_add-result c =
    omega (arith, weight_most c.stop_has.result 1 _ c.weight-a.ensures, weight_most c.stop_has-2.result 2 _ c.weight-b.ensures)

pub overflow_add-result-2 : goal.overflow_add-result-2
overflow_add-result-2 c =
    omega (arith, weight_most c.stop_has.result 1 _ c.weight-a.ensures, weight_most c.stop_has-2.result 2 _ c.weight-b.ensures, weight_most c.stop_has-3.result 4 _ c.weight-c.ensures)

pub overflow_add-result-3 : goal.overflow_add-result-3
overflow_add-result-3 c =
    omega (arith, weight_most c.stop_has.result 1 _ c.weight-a.ensures, weight_most c.stop_has-2.result 2 _ c.weight-b.ensures, weight_most c.stop_has-3.result 4 _ c.weight-c.ensures, weight_most c.stop_has-4.result 8 _ c.weight-d.ensures)

pub overflow_add-result-4 : goal.overflow_add-result-4
overflow_add-result-4 c =
    omega (arith, weight_most c.stop_has.result 1 _ c.weight-a.ensures, weight_most c.stop_has-2.result 2 _ c.weight-b.ensures, weight_most c.stop_has-3.result 4 _ c.weight-c.ensures, weight_most c.stop_has-4.result 8 _ c.weight-d.ensures, weight_most c.stop_has-5.result 16 _ c.weight-e.ensures)

pub returns : goal.returns
returns c =
    let a = c.args in
    sum_is (plain_signs (records_in (fields_of 3) a.f3.now) (records_in (fields_of 7) a.f7.now) (texts 8 a.row.bytes.now a.row.places.now))
    c.stop_has.ensures
    c.stop_has-2.ensures
    c.stop_has-3.ensures
    c.stop_has-4.ensures
    c.stop_has-5.ensures
    c.weight-a.ensures
    c.weight-b.ensures
    c.weight-c.ensures
    c.weight-d.ensures
    c.weight-e.ensures
