-- `stopping::halt_at` meets its contract: the record is cut, and each number of the answer is read of it.
use mathlib.Core.Path.{sym, ap, ◌∙◌}
use mathlib.Core.Bool.{Bool}
use Prim.Native.Nat.{ℕ}
use native.Mathlib.Omega.{arith}
use lib.ListN.{length, drop}
use Rattle.file.specs.Files.{fields_of, field_counts}
use Rattle.file.specs.Format.{Text}
use Rattle.file.specs.Records.{records_in}
use Rattle.field.specs.Values.{value}
use Rattle.rules.specs.Texts.{Kinded}
use Rattle.amiss.proofs.RecordLaws.{number_part, number_text}
use Rattle.trail.specs.Lists.{some}
use Rattle.trail.proofs.NumberLaws.{third_text}
use Rattle.trip.specs.Stops.{timed}
use Rattle.coded.specs.Left.{left_at}
use Rattle.coded.proofs.LeftLaws.{left_here, left_kinded}
use Rattle.calling.specs.Calling.{travelled, goes_up}
use Rattle.calling.proofs.CallingLaws.{three_numbers}
use Rattle.stopping.proofs.StoppingLaws.{stop_there, halt_is}
use Rattle.stopping.proofs.halt_at.Goals as goal

pub cut-requires : goal.cut-requires
unfolding fields_of field_counts
cut-requires c =
    let a = c.args in
    let p = c.requires in
    left_here 8 a.f8.now a.paths.order.now a.paths.ways.now p.6 a.at p.0 p.1

pub visit_of-v-requires : goal.visit_of-v-requires
unfolding fields_of field_counts
visit_of-v-requires c =
    let kinded : Kinded 8 c.args.f8.now c.cut.new.places =
    let a = c.args in
    let p = c.requires in
    left_kinded 8 a.f8.now a.paths.order.now a.paths.ways.now p.6 a.at p.0 p.1 c.cut.ensures in
    kinded

pub part-requires : goal.part-requires
unfolding fields_of field_counts
part-requires c =
    let kinded : Kinded 8 c.args.f8.now c.cut.new.places =
    let a = c.args in
    let p = c.requires in
    left_kinded 8 a.f8.now a.paths.order.now a.paths.ways.now p.6 a.at p.0 p.1 c.cut.ensures in
    kinded.parted 2 (omega arith)

pub value_of-requires : goal.value_of-requires
unfolding fields_of field_counts
value_of-requires c =
    let kinded : Kinded 8 c.args.f8.now c.cut.new.places =
    let a = c.args in
    let p = c.requires in
    left_kinded 8 a.f8.now a.paths.order.now a.paths.ways.now p.6 a.at p.0 p.1 c.cut.ensures in
    let n = third_text 8 c.args.f8.now c.cut.new.places (omega arith, omega arith) three_numbers kinded _ c.part.ensures in
    (n.digits, n.most)

pub part-requires-2 : goal.part-requires-2
unfolding fields_of field_counts
part-requires-2 c =
    let kinded : Kinded 8 c.args.f8.now c.cut.new.places =
    let a = c.args in
    let p = c.requires in
    left_kinded 8 a.f8.now a.paths.order.now a.paths.ways.now p.6 a.at p.0 p.1 c.cut.ensures in
    kinded.parted 3 (omega arith)

pub value_of-requires-2 : goal.value_of-requires-2
unfolding fields_of field_counts
value_of-requires-2 c =
    let kinded : Kinded 8 c.args.f8.now c.cut.new.places =
    let a = c.args in
    let p = c.requires in
    left_kinded 8 a.f8.now a.paths.order.now a.paths.ways.now p.6 a.at p.0 p.1 c.cut.ensures in
    let n = number_part kinded 4 c.part-2.ensures stop_there in
    (n.digits, n.most)

pub sign_sum-requires : goal.sign_sum-requires
unfolding fields_of field_counts
sign_sum-requires c =
    let kinded : Kinded 8 c.args.f8.now c.cut.new.places =
    let a = c.args in
    let p = c.requires in
    left_kinded 8 a.f8.now a.paths.order.now a.paths.ways.now p.6 a.at p.0 p.1 c.cut.ensures in
    let p = c.requires in
    (kinded, p.5, p.4)

pub count_stops-requires : goal.count_stops-requires
count_stops-requires c =
    let p = c.requires in
    (p.6, p.2, p.3)

pub returns : goal.returns
unfolding fields_of field_counts
returns c =
    let kinded : Kinded 8 c.args.f8.now c.cut.new.places =
    let a = c.args in
    let p = c.requires in
    left_kinded 8 a.f8.now a.paths.order.now a.paths.ways.now p.6 a.at p.0 p.1 c.cut.ensures in
    let number : ℕ =
    length (travelled c.args.line c.args.trip (records_in (fields_of 8) c.args.f8.now)) in
    let later : Bool =
    some timed (drop 1 (left_at 8 c.args.f8.now (goes_up c.args.trip) c.args.line c.args.trip c.args.at)) in
    let a = c.args in
    let t = third_text 8 a.f8.now c.cut.new.places (omega arith, omega arith) three_numbers kinded _ c.part.ensures in
    let s = number_text kinded 4 c.part-2.ensures stop_there in
    halt_is (records_in (fields_of 3) a.f3.now) (records_in (fields_of 7) a.f7.now) a.f8.now a.at c.cut.ensures c.visit_of-v.ensures {count = number} {behind = later}
    (c.value_of.ensures ∙ t.worth)
    (c.value_of-2.ensures ∙ ap (λ (x : Text). value x) (sym s))
    c.weight.ensures
    c.weight-2.ensures
    c.sign_sum.ensures
    c.timed_behind-more.ensures
    c.is_last.ensures
    c.weight-3.ensures
    c.count_stops.ensures
