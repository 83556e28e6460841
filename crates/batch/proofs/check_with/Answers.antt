-- `batch::check_with` meets its contract: where all files pass, nothing stands before the trips; else the stages tell.
use mathlib.Core.Path.{◌∙◌}
use Rattle.thirteen.specs.Batch.{Batch, file_in}
use Rattle.thirteen.specs.Lent.{batch_of}
use Rattle.smooth.proofs.SmoothLaws.{smooth_links}
use Rattle.batch.proofs.RecordsLaws.{smooth_past, smooth_ready, trips_are}
use Rattle.batch.proofs.check_with.Goals as goal

pub trips_fault-requires : goal.trips_fault-requires
unfolding file_in
trips_fault-requires c =
    let files : Batch = batch_of c.args.files.now in
    let r = smooth_ready files c.args.order.now c.args.ways.now _ (c.all_pass.ensures c.if-all_pass.true) c.all_pass.auto.ways c.requires in
    (r.codes, r.trips, r.stops, r.times)

pub returns-then-all_pass : goal.returns-then-all_pass
unfolding file_in
returns-then-all_pass c =
    let files : Batch = batch_of c.args.files.now in
    let order = c.args.order.now in
    let s = c.all_pass.ensures c.if-all_pass.true in
    (smooth_past files order _ s _ (c.timed_fault.ensures ∙ c.trips_fault.ensures ∙ trips_are files (smooth_links files order _ s)), λ e. s.routes)
