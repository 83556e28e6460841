-- `halts::nth_stop` meets its contract. The loop's invariant: those that are left are the trip's records from the ith on.
use native.Mathlib.Omega.{arith}
use Rattle.file.specs.Files.{fields_of, field_counts}
use Rattle.lines.proofs.LineLaws.{place_start}
use Rattle.coded.proofs.LeftLaws.{treads, walks, left_here, left_kinded}
use Rattle.calling.proofs.CallingLaws.{three_numbers}
use Rattle.halts.proofs.HaltLaws.{walk_start, walk_next, walk_less, nth_next, nth_end}
use Rattle.halts.proofs.nth_stop.Goals as goal

pub first_of-step-requires : goal.first_of-step-requires
first_of-step-requires c =
    let p = c.requires in
    (p.0, place_start (fields_of 8) c.args.f8.now p.0.key.legal, p.1, p.2)

pub loop-step-init : goal.loop-step-init
loop-step-init c =
    let a = c.args in
    let p = c.requires in
    let w = walk_start a.f8.now a.paths.order.now a.paths.ways.now p.0 a.line a.trip p.1 p.2 _ c.first_of-step.ensures in
    (w.0, omega arith, w.1)

pub returns-then-i-n : goal.returns-then-i-n
returns-then-i-n c =
    let v = c.loop-step.invariant in
    record { place = v.0.place; left = rw c.if-i-n.true at v.2 }

pub cut-next-requires : goal.cut-next-requires
unfolding fields_of field_counts
cut-next-requires c =
    let a = c.args in
    let p = c.requires in
    left_here 8 a.f8.now a.paths.order.now a.paths.ways.now p.0 c.loop-step.step.at c.loop-step.invariant.0.place c.loop-step-test.true

pub step_on-step-requires : goal.step_on-step-requires
unfolding fields_of field_counts
step_on-step-requires c =
    let a = c.args in
    let p = c.requires in
    (walks 8 a.f8.now a.paths.order.now a.paths.ways.now p.0 three_numbers c.loop-step.step.at c.loop-step.invariant.0.place, left_kinded 8 a.f8.now a.paths.order.now a.paths.ways.now p.0 c.loop-step.step.at c.loop-step.invariant.0.place c.loop-step-test.true c.cut-next.ensures, treads 8 a.f8.now a.line a.trip c.loop-step.step.at c.loop-step.invariant.0.place c.loop-step-test.true c.cut-next.ensures (c.loop-step.invariant.0.mine c.loop-step-test.true), p.1, p.2)

pub loop-step-smaller : goal.loop-step-smaller
unfolding fields_of field_counts
loop-step-smaller c =
    let a = c.args in
    let p = c.requires in
    walk_less a.f8.now a.paths.order.now a.paths.ways.now p.0 a.line a.trip p.1 p.2 c.loop-step.step.at c.loop-step-test.true c.cut-next.ensures _ c.step_on-step.ensures

pub loop-step-preserved : goal.loop-step-preserved
unfolding fields_of field_counts
loop-step-preserved c =
    let a = c.args in
    let p = c.requires in
    let v = c.loop-step.invariant in
    let h = c.loop-step-test.true in
    ((walk_next a.f8.now a.paths.order.now a.paths.ways.now p.0 a.line a.trip p.1 p.2 c.loop-step.step.at h c.cut-next.ensures _ c.step_on-step.ensures).0, omega (arith, v.1, c.if-i-n.false), nth_next a.f8.now a.paths.order.now a.paths.ways.now p.0 a.line a.trip p.1 p.2 c.loop-step.step.at h c.cut-next.ensures _ c.step_on-step.ensures c.loop-step.i v.2)

pub returns : goal.returns
returns c =
    let a = c.args in
    let p = c.requires in
    let v = c.loop-step.invariant in
    record {
      place = v.0.place;
      left = nth_end a.f8.now a.paths.order.now a.paths.ways.now p.0 a.line a.trip p.1 p.2 c.loop-step.i a.n c.loop-step.step.at v.2 v.1 c.loop-step-test.false;
    }

pub overflow_add-i : goal.overflow_add-i
overflow_add-i c = omega (arith, c.loop-step.invariant.1, c.if-i-n.false)
