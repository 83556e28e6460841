-- `batch::check_records` meets its contract: 7, 8 and 9 come first, and where they find nothing no two records have one key, so that trips count.
use mathlib.Core.Bool.{not}
use mathlib.Core.Path.{ap, ◌∙◌}
use Rattle.thirteen.specs.Batch.{Batch, file_in}
use Rattle.thirteen.specs.Lent.{batch_of}
use Rattle.batch.proofs.RecordsLaws.{links_stop, links_none, links_past, files_ready, trips_are}
use Rattle.batch.proofs.check_records.Goals as goal

pub returns-then-not-is_none : goal.returns-then-not-is_none
returns-then-not-is_none c =
    let files : Batch = batch_of c.args.files.now in
    links_stop files _ (c.linked_fault-fault.ensures ∙ c.links_fault.ensures) _ c.is_none.ensures (ap not c.if-not-is_none.true)

pub trips_fault-requires : goal.trips_fault-requires
unfolding file_in
trips_fault-requires c =
    let files : Batch = batch_of c.args.files.now in
    let p = c.requires in
    let e = links_none files _ (c.linked_fault-fault.ensures ∙ c.links_fault.ensures) _ c.is_none.ensures (ap not c.if-not-is_none.false) in
    let r = files_ready files c.args.paths.order.now c.args.paths.ways.now p.0 e p.2 p.1 in
    (r.codes, r.trips, r.stops, r.times)

pub returns : goal.returns
unfolding file_in
returns c =
    let files : Batch = batch_of c.args.files.now in
    let g = c.linked_fault-fault.ensures ∙ c.links_fault.ensures in
    let e = links_none files _ g _ c.is_none.ensures (ap not c.if-not-is_none.false) in
    links_past files _ g _ c.is_none.ensures (ap not c.if-not-is_none.false) _ (c.timed_fault.ensures ∙ c.trips_fault.ensures ∙ trips_are files e)
