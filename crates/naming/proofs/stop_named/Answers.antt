-- `naming::stop_named` meets its contract: a batch's own refusal comes first, and a batch that has none stands, so that its stops can be asked.
use mathlib.Core.Bool.{not}
use mathlib.Core.Path.{◌≡◌, ap}
use mathlib.Core.List.{[]}
use native.Mathlib.Omega.{arith}
use Rattle.laws.specs.Numbered.{answered}
use Rattle.thirteen.specs.Batch.{Batch, file_in}
use Rattle.thirteen.specs.Lent.{batch_of}
use Rattle.batch.specs.Order.{fault_of}
use Rattle.batch.proofs.VerdictLaws.{no_fault}
use Rattle.named.specs.Names.{numbered_named}
use Rattle.naming.proofs.NameLaws.{answer_refused, answer_is, stops_ready}
use Rattle.naming.proofs.stop_named.Goals as goal

pub returns-then-not-is_none : goal.returns-then-not-is_none
unfolding numbered_named
returns-then-not-is_none c =
    let files : Batch = batch_of c.args.files.now in
    let a = c.args in
    answer_refused files a.town.now a.part.now a.place.now _ c.check_with-fault.ensures.0 _ c.is_none.ensures (ap not c.if-not-is_none.true)

pub named_in-requires : goal.named_in-requires
unfolding file_in
named_in-requires c =
    let files : Batch = batch_of c.args.files.now in
    let nothing : fault_of files ≡ answered [] =
    no_fault files _ c.check_with-fault.ensures.0 _ c.is_none.ensures (ap not c.if-not-is_none.false) in
    stops_ready files c.args.order.now c.check_with-fault.new.ways nothing (c.check_with-fault.ensures.1 nothing) (omega (arith, c.check_with-fault.auto.ways))

pub returns : goal.returns
unfolding file_in
returns c =
    let files : Batch = batch_of c.args.files.now in
    let a = c.args in
    answer_is files a.town.now a.part.now a.place.now _ c.check_with-fault.ensures.0 _ c.is_none.ensures (ap not c.if-not-is_none.false) c.named_in.ensures
