-- `sales::many_sales` meets its contract: a batch's own refusal comes first, then that of a list with no room; else its files can be asked.
use mathlib.Core.Bool.{not}
use mathlib.Core.Path.{◌≡◌, ap}
use mathlib.Core.List.{[]}
use Prim.Native.Nat.{◌≤◌}
use native.Mathlib.Omega.{arith}
use lib.ListN.{length}
use Rattle.laws.specs.Numbered.{answered}
use Rattle.thirteen.specs.Batch.{Batch, file_in}
use Rattle.thirteen.specs.Lent.{batch_of}
use Rattle.batch.specs.Order.{fault_of}
use Rattle.batch.proofs.AcceptedLaws.{standing}
use Rattle.batch.proofs.VerdictLaws.{no_fault}
use Rattle.roll.proofs.StandingLaws.{standing_ready}
use Rattle.selling.proofs.SellingLaws.{lines_met}
use Rattle.sales.proofs.SalesLaws.{sales_refused, sales_no_room, sales_fit, sales_answered}
use Rattle.sales.proofs.many_sales.Goals as goal

pub returns-then-not-is_none : goal.returns-then-not-is_none
returns-then-not-is_none c =
    let files : Batch = batch_of c.args.files.now in
    let a = c.args in
    sales_refused files a.holidays.now a.asked.now a.list.now _ c.check_with-fault.ensures.0 _ c.is_none.ensures (ap not c.if-not-is_none.true)

pub returns-in-Refused : goal.returns-in-Refused
returns-in-Refused c =
    let files : Batch = batch_of c.args.files.now in
    let nothing : fault_of files ≡ answered [] =
    no_fault files _ c.check_with-fault.ensures.0 _ c.is_none.ensures (ap not c.if-not-is_none.false) in
    let a = c.args in
    sales_no_room files a.holidays.now a.asked.now a.list.now nothing c.in-Refused.short (rw c.in-Refused.is at c.room_for.ensures)

pub answer_all-requires : goal.answer_all-requires
unfolding file_in
answer_all-requires c =
    let files : Batch = batch_of c.args.files.now in
    let nothing : fault_of files ≡ answered [] =
    no_fault files _ c.check_with-fault.ensures.0 _ c.is_none.ensures (ap not c.if-not-is_none.false) in
    let a = c.args in
    let order = a.order.now in
    let ways = c.check_with-fault.new.ways in
    let w = c.check_with-fault.ensures.1 nothing in
    let h : 33 ≤ length ways = omega (arith, c.check_with-fault.auto.ways) in
    let y = standing_ready files order ways (standing files nothing) w h in
    (sales_fit files a.holidays.now a.asked.now a.list.now nothing c.in-Answered.n (rw c.in-Answered.is at c.room_for.ensures), lines_met files nothing, y.codes, y.lines, y.trips, y.line_stops, y.trip_stops, y.time_codes)

pub returns-in-Answered : goal.returns-in-Answered
unfolding file_in
returns-in-Answered c =
    let files : Batch = batch_of c.args.files.now in
    let nothing : fault_of files ≡ answered [] =
    no_fault files _ c.check_with-fault.ensures.0 _ c.is_none.ensures (ap not c.if-not-is_none.false) in
    let a = c.args in
    sales_answered files a.holidays.now a.asked.now a.list.now nothing c.in-Answered.n (rw c.in-Answered.is at c.room_for.ensures) c.answer_all.ensures
