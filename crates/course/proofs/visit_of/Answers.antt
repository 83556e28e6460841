-- `course::visit_of` meets its contract, member by member: the texts are the record's kilometres, arrival and departure.
use mathlib.Core.Bool.{not}
use mathlib.Core.Path.{◌≡◌, sym, ap}
use native.Mathlib.Omega.{arith}
use Rattle.laws.specs.Tests.{both}
use Rattle.file.specs.Files.{fields_of, field_counts}
use Rattle.field.specs.Kinds.{kind_of, kinds, zasspoje}
use Rattle.field.specs.Values.{is_empty}
use Rattle.rules.proofs.KindLaws.{text_at, text_kind}
use Rattle.course.proofs.LeafLaws.{maybe_number, visit_is}
use Rattle.course.proofs.visit_of.Goals as goal
use Rattle.course.proofs.visit_of.Goals.{then-is_empty, else-is_empty}

pub part-a-requires : goal.part-a-requires
unfolding fields_of field_counts
part-a-requires c = c.requires.parted 8 (omega arith)

pub part-d-requires : goal.part-d-requires
unfolding fields_of field_counts
part-d-requires c = c.requires.parted 9 (omega arith)

pub part-k-requires : goal.part-k-requires
unfolding fields_of field_counts
part-k-requires c = c.requires.parted 7 (omega arith)

pub is_timed-requires : goal.is_timed-requires
unfolding fields_of field_counts kind_of kinds zasspoje
is_timed-requires c =
    text_kind c.requires 8 (omega arith) c.part-a.ensures

pub minute_or-requires : goal.minute_or-requires
unfolding fields_of field_counts kind_of kinds zasspoje
minute_or-requires c =
    text_kind c.requires 8 (omega arith) c.part-a.ensures

pub is_timed-requires-2 : goal.is_timed-requires-2
unfolding fields_of field_counts kind_of kinds zasspoje
is_timed-requires-2 c =
    text_kind c.requires 9 (omega arith) c.part-d.ensures

pub minute_or-requires-2 : goal.minute_or-requires-2
unfolding fields_of field_counts kind_of kinds zasspoje
minute_or-requires-2 c =
    text_kind c.requires 9 (omega arith) c.part-d.ensures

pub stands_in-requires : goal.stands_in-requires
unfolding fields_of field_counts kind_of kinds zasspoje
stands_in-requires c =
    let k = c.requires in
    (text_kind k 8 (omega arith) c.part-a.ensures, text_kind k 9 (omega arith) c.part-d.ensures)

pub value_of-requires : goal.value_of-requires
unfolding fields_of field_counts kind_of kinds zasspoje
value_of-requires c =
    maybe_number _ (text_kind c.requires 7 (omega arith) c.part-k.ensures)

pub returns : goal.returns
unfolding fields_of field_counts
returns c =
    let k = c.requires in
    let none : c.if-is_empty.result ≡ both (is_empty c.part-a.result.now) (is_empty c.part-d.result.now) =
    elim c.if-is_empty.branch [
      | then-is_empty w ↦ rw (w.result-is, w.is_empty-then-is_empty.ensures, sym w.if-is_empty.ensures)
      | else-is_empty w ↦ rw (w.result-is, w.if-is_empty.false, sym w.if-is_empty.ensures)
    ] in
    visit_is _ (text_at k 8 (omega arith) c.part-a.ensures) (text_at k 9 (omega arith) c.part-d.ensures) (text_at k 7 (omega arith) c.part-k.ensures)
    c.is_timed.ensures c.minute_or.ensures.0 c.is_timed-2.ensures c.minute_or-2.ensures.0 c.stands_in.ensures none (ap not c.is_empty-2.ensures) c.value_of.ensures
