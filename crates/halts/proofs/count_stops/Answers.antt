-- `halts::count_stops` meets its contract. The loop's invariant: those that were counted and those that are left are the trip's records.
use mathlib.Core.Path.{ap}
use native.Mathlib.Omega.{arith}
use lib.ListN.{length}
use Rattle.file.specs.Files.{fields_of, field_counts}
use Rattle.lines.proofs.LineLaws.{place_start}
use Rattle.coded.proofs.LeftLaws.{treads, walks, left_here, left_kinded}
use Rattle.calling.proofs.CallingLaws.{three_numbers}
use Rattle.halts.proofs.HaltLaws.{few_stops, walk_start, walk_next, walk_less, count_next, count_end}
use Rattle.halts.proofs.count_stops.Goals as goal

pub first_of-step-requires : goal.first_of-step-requires
first_of-step-requires c =
    let p = c.requires in
    (p.0, place_start (fields_of 8) c.args.f8.now p.0.key.legal, p.1, p.2)

pub loop-step-init : goal.loop-step-init
loop-step-init c =
    let a = c.args in
    let p = c.requires in
    let w = walk_start a.f8.now a.paths.order.now a.paths.ways.now p.0 a.line a.trip p.1 p.2 _ c.first_of-step.ensures in
    (w.0, omega (arith, ap length w.1))

pub cut-next-requires : goal.cut-next-requires
unfolding fields_of field_counts
cut-next-requires c =
    let a = c.args in
    let p = c.requires in
    left_here 8 a.f8.now a.paths.order.now a.paths.ways.now p.0 c.loop-step.step.at c.loop-step.invariant.0.place c.loop-step-test.true

-- no more are counted than the file has bytes
pub overflow_add-n : goal.overflow_add-n
overflow_add-n c =
    let a = c.args in
    let p = c.requires in
    omega (arith, c.loop-step.invariant.1, few_stops a.f8.now a.line a.trip p.0.key.legal)

pub step_on-step-requires : goal.step_on-step-requires
unfolding fields_of field_counts
step_on-step-requires c =
    let a = c.args in
    let p = c.requires in
    (walks 8 a.f8.now a.paths.order.now a.paths.ways.now p.0 three_numbers c.loop-step.step.at c.loop-step.invariant.0.place, left_kinded 8 a.f8.now a.paths.order.now a.paths.ways.now p.0 c.loop-step.step.at c.loop-step.invariant.0.place c.loop-step-test.true c.cut-next.ensures, treads 8 a.f8.now a.line a.trip c.loop-step.step.at c.loop-step.invariant.0.place c.loop-step-test.true c.cut-next.ensures (c.loop-step.invariant.0.mine c.loop-step-test.true), p.1, p.2)

pub loop-step-smaller : goal.loop-step-smaller
unfolding fields_of field_counts
loop-step-smaller c =
    let a = c.args in
    let p = c.requires in
    walk_less a.f8.now a.paths.order.now a.paths.ways.now p.0 a.line a.trip p.1 p.2 c.loop-step.step.at c.loop-step-test.true c.cut-next.ensures _ c.step_on-step.ensures

pub loop-step-preserved : goal.loop-step-preserved
unfolding fields_of field_counts
loop-step-preserved c =
    let a = c.args in
    let p = c.requires in
    let h = c.loop-step-test.true in
    ((walk_next a.f8.now a.paths.order.now a.paths.ways.now p.0 a.line a.trip p.1 p.2 c.loop-step.step.at h c.cut-next.ensures _ c.step_on-step.ensures).0, count_next a.f8.now a.paths.order.now a.paths.ways.now p.0 a.line a.trip p.1 p.2 c.loop-step.step.at h c.cut-next.ensures _ c.step_on-step.ensures c.loop-step.n c.loop-step.invariant.1)

pub returns : goal.returns
returns c =
    let a = c.args in
    let p = c.requires in
    count_end a.f8.now a.paths.order.now a.paths.ways.now p.0 a.line a.trip p.1 p.2 c.loop-step.n c.loop-step.step.at c.loop-step.invariant.1 c.loop-step-test.false
