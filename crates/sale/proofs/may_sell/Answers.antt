-- `sale::may_sell` meets its contract: a batch's own refusal comes first, and a batch that has none stands, so that its files can be asked.
use mathlib.Core.Bool.{not}
use mathlib.Core.Path.{◌≡◌, ap}
use mathlib.Core.List.{[]}
use Prim.Native.Nat.{◌≤◌}
use native.Mathlib.Omega.{arith}
use lib.ListN.{length}
use Rattle.laws.specs.Numbered.{answered}
use Rattle.thirteen.specs.Batch.{Batch, file_in}
use Rattle.thirteen.specs.Lent.{batch_of}
use Rattle.batch.specs.Order.{fault_of}
use Rattle.batch.proofs.AcceptedLaws.{standing}
use Rattle.batch.proofs.VerdictLaws.{no_fault}
use Rattle.roll.proofs.StandingLaws.{standing_ready}
use Rattle.outcome.specs.Answers.{numbered_sale}
use Rattle.selling.proofs.SellingLaws.{lines_met}
use Rattle.sale.proofs.SaleLaws.{sale_refused, sale_told}
use Rattle.sale.proofs.may_sell.Goals as goal

pub returns-then-not-is_none : goal.returns-then-not-is_none
unfolding numbered_sale
returns-then-not-is_none c =
    let files : Batch = batch_of c.args.files.now in
    let a = c.args in
    sale_refused files _ c.check_with-fault.ensures.0 _ c.is_none.ensures a.line a.trip a.day a.month a.year a.from a.to a.holidays.now (ap not c.if-not-is_none.true)

pub sale_on-requires : goal.sale_on-requires
unfolding file_in
sale_on-requires c =
    let files : Batch = batch_of c.args.files.now in
    let nothing : fault_of files ≡ answered [] =
    no_fault files _ c.check_with-fault.ensures.0 _ c.is_none.ensures (ap not c.if-not-is_none.false) in
    let order = c.args.order.now in
    let ways = c.check_with-fault.new.ways in
    let w = c.check_with-fault.ensures.1 nothing in
    let h : 33 ≤ length ways = omega (arith, c.check_with-fault.auto.ways) in
    let r = standing_ready files order ways (standing files nothing) w h in
    (lines_met files nothing, r.codes, r.lines, r.trips, r.line_stops, r.trip_stops, r.time_codes)

pub returns : goal.returns
unfolding file_in numbered_sale
returns c =
    let files : Batch = batch_of c.args.files.now in
    let a = c.args in
    sale_told files _ c.check_with-fault.ensures.0 _ c.is_none.ensures a.line a.trip a.day a.month a.year a.from a.to a.holidays.now (ap not c.if-not-is_none.false) c.sale_on.ensures
