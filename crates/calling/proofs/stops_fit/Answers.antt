-- `calling::stops_fit` meets its contract. The loop's invariant: the pass goes on from what it has come to, through the records that are left,
-- to what it comes to through all of them.
use lib.ListN as list
use Rattle.file.specs.Files.{fields_of, field_counts}
use Rattle.coded.proofs.LeftLaws.{treads, walks, left_here, left_kinded}
use Rattle.calling.proofs.CallingLaws.{three_numbers, passing_start, passing_next, passing_less, passing_end}
use Rattle.calling.proofs.stops_fit.Goals as goal

pub loop-step-init : goal.loop-step-init
loop-step-init c =
    let a = c.args in
    let p = c.requires in
    passing_start a.f8.now a.paths.order.now a.paths.ways.now p.0 a.line a.trip p.2 p.3 _ _ c.set_out-c.ensures c.first_of-step.ensures

pub cut-next-requires : goal.cut-next-requires
unfolding fields_of field_counts
cut-next-requires c =
    let a = c.args in
    let p = c.requires in
    left_here 8 a.f8.now a.paths.order.now a.paths.ways.now p.0 c.loop-step.step.at c.loop-step.invariant.place c.loop-step-test.true

pub visit_of-v-requires : goal.visit_of-v-requires
unfolding fields_of field_counts
visit_of-v-requires c =
    let a = c.args in
    let p = c.requires in
    left_kinded 8 a.f8.now a.paths.order.now a.paths.ways.now p.0 c.loop-step.step.at c.loop-step.invariant.place c.loop-step-test.true c.cut-next.ensures

pub step_on-step-requires : goal.step_on-step-requires
unfolding fields_of field_counts
step_on-step-requires c =
    let a = c.args in
    let p = c.requires in
    (walks 8 a.f8.now a.paths.order.now a.paths.ways.now p.0 three_numbers c.loop-step.step.at c.loop-step.invariant.place, left_kinded 8 a.f8.now a.paths.order.now a.paths.ways.now p.0 c.loop-step.step.at c.loop-step.invariant.place c.loop-step-test.true c.cut-next.ensures, treads 8 a.f8.now a.line a.trip c.loop-step.step.at c.loop-step.invariant.place c.loop-step-test.true c.cut-next.ensures (c.loop-step.invariant.mine c.loop-step-test.true), p.2, p.3)

pub loop-step-smaller : goal.loop-step-smaller
unfolding fields_of field_counts
loop-step-smaller c =
    let w = c.loop-step in
    let a = c.args in
    let p = c.requires in
    passing_less a.f8.now a.paths.order.now a.paths.ways.now p.0 a.line a.trip p.2 p.3 w.near w.step.at w.c w.time w.length w.invariant
    c.loop-step-test.true c.cut-next.ensures _ c.step_on-step.ensures

pub loop-step-preserved : goal.loop-step-preserved
unfolding fields_of field_counts
loop-step-preserved c =
    let w = c.loop-step in
    let a = c.args in
    let p = c.requires in
    passing_next a.f8.now a.paths.order.now a.paths.ways.now p.0 a.line a.trip p.2 p.3 w.near w.step.at w.c w.time w.length w.invariant
    c.loop-step-test.true c.cut-next.ensures _ c.step_on-step.ensures _ c.visit_of-v.ensures _ c.track_on-c.ensures _ c.time_on-time.ensures
    _ c.length_on-length.ensures _ c.max-near.ensures

pub returns : goal.returns
returns c =
    let w = c.loop-step in
    let a = c.args in
    let p = c.requires in
    (passing_end a.f8.now a.paths.order.now a.paths.ways.now p.0 a.line a.trip p.2 p.3 w.near w.step.at w.c w.time w.length w.invariant c.loop-step-test.false _ c.course_ends.ensures, w.invariant.last)
