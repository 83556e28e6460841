-- `calls::trip_stop` meets its contract: a batch's own refusal comes first, and a batch that has none stands, so that its files can be asked.
use mathlib.Core.Bool.{not}
use mathlib.Core.Path.{◌≡◌, ap}
use mathlib.Core.List.{[]}
use native.Mathlib.Omega.{arith}
use Rattle.laws.specs.Numbered.{answered}
use Rattle.thirteen.specs.Batch.{Batch, file_in}
use Rattle.thirteen.specs.Lent.{batch_of}
use Rattle.batch.specs.Order.{fault_of}
use Rattle.batch.proofs.AcceptedLaws.{standing}
use Rattle.batch.proofs.VerdictLaws.{no_fault}
use Rattle.roll.proofs.StandingLaws.{standing_ready}
use Rattle.outcome.specs.Answers.{numbered_stop}
use Rattle.calls.proofs.CallsLaws.{answer_refused, answer_is}
use Rattle.calls.proofs.trip_stop.Goals as goal

pub returns-then-not-is_none : goal.returns-then-not-is_none
unfolding numbered_stop
returns-then-not-is_none c =
    let files : Batch = batch_of c.args.files.now in
    let a = c.args in
    answer_refused files a.line a.trip a.n _ c.check_with-fault.ensures.0 _ c.is_none.ensures (ap not c.if-not-is_none.true)

pub answer_stop-requires : goal.answer_stop-requires
unfolding file_in
answer_stop-requires c =
    let files : Batch = batch_of c.args.files.now in
    let nothing : fault_of files ≡ answered [] =
    no_fault files _ c.check_with-fault.ensures.0 _ c.is_none.ensures (ap not c.if-not-is_none.false) in
    let r = standing_ready files c.args.order.now c.check_with-fault.new.ways (standing files nothing) (c.check_with-fault.ensures.1 nothing) (omega (arith, c.check_with-fault.auto.ways)) in
    (r.codes, r.trips, r.line_stops, r.trip_stops)

pub returns : goal.returns
unfolding file_in
returns c =
    let files : Batch = batch_of c.args.files.now in
    let a = c.args in
    answer_is files a.line a.trip a.n _ c.check_with-fault.ensures.0 _ c.is_none.ensures (ap not c.if-not-is_none.false) c.answer_stop.ensures
