-- `marks::line_stop_marks` meets its contract: the record that is cut is the one at the place, and its codes are its texts 4 to 6.
use native.Mathlib.Omega.{arith}
use Rattle.file.specs.Files.{fields_of, field_counts}
use Rattle.file.specs.Records.{records_in}
use Rattle.link.specs.Signs.{sign_in}
use Rattle.coded.proofs.LeftLaws.{left_here, left_kinded}
use Rattle.marks.proofs.MarkLaws.{line_stop_codes, line_stop_marked}
use Rattle.marks.proofs.line_stop_marks.Goals as goal

pub cut-requires : goal.cut-requires
unfolding fields_of field_counts
cut-requires c =
    let a = c.args in
    let p = c.requires in
    left_here 7 a.f7.now a.paths.order.now a.paths.ways.now p.2 a.at p.0 p.1

pub code_marks-requires : goal.code_marks-requires
unfolding fields_of field_counts
code_marks-requires c =
    let a = c.args in
    let p = c.requires in
    (left_kinded 7 a.f7.now a.paths.order.now a.paths.ways.now p.2 a.at p.0 p.1 c.cut.ensures, line_stop_codes, omega arith, p.3)

pub returns : goal.returns
unfolding fields_of field_counts
returns c =
    let a = c.args in
    line_stop_marked (λ k. sign_in (records_in (fields_of 3) a.f3.now) k) a.f7.now a.at c.cut.ensures c.code_marks.ensures
