-- `ticket::served_at` meets its contract: the record is cut, and its times and signs are read of it.
use Rattle.file.specs.Files.{fields_of, field_counts}
use Rattle.file.specs.Records.{records_in}
use Rattle.rules.specs.Texts.{Kinded}
use Rattle.coded.proofs.LeftLaws.{left_here, left_kinded}
use Rattle.ticket.proofs.TicketLaws.{served_is}
use Rattle.ticket.proofs.served_at.Goals as goal

pub cut-requires : goal.cut-requires
unfolding fields_of field_counts
cut-requires c =
    let a = c.args in
    let p = c.requires in
    left_here 8 a.f8.now a.paths.order.now a.paths.ways.now p.4 a.at p.0 p.1

pub visit_of-v-requires : goal.visit_of-v-requires
unfolding fields_of field_counts
visit_of-v-requires c =
    let kinded : Kinded 8 c.args.f8.now c.cut.new.places =
    let a = c.args in
    let p = c.requires in
    left_kinded 8 a.f8.now a.paths.order.now a.paths.ways.now p.4 a.at p.0 p.1 c.cut.ensures in
    kinded

pub stop_marks-m-requires : goal.stop_marks-m-requires
unfolding fields_of field_counts
stop_marks-m-requires c =
    let kinded : Kinded 8 c.args.f8.now c.cut.new.places =
    let a = c.args in
    let p = c.requires in
    left_kinded 8 a.f8.now a.paths.order.now a.paths.ways.now p.4 a.at p.0 p.1 c.cut.ensures in
    let p = c.requires in
    (kinded, p.3, p.2)

pub returns : goal.returns
unfolding fields_of field_counts
returns c =
    let a = c.args in
    let i = c.stop_marks-m.ensures in
    served_is (records_in (fields_of 3) a.f3.now) (records_in (fields_of 7) a.f7.now) a.f8.now a.at c.cut.ensures c.visit_of-v.ensures
    i.dollar_is
    i.opening_is
    c.one_of.ensures
    i.closing_is
    c.one_of-2.ensures
    i.section_is
