-- `halts::timed_behind` meets its contract. The loop's invariant: whether one of those that are left has a time is whether one behind the first has.
use mathlib.Core.Bool.{true}
use mathlib.Core.Path.{◌≡◌, sym, ap, ◌∙◌}
use mathlib.Core.List.{List}
use Rattle.file.specs.Files.{fields_of, field_counts}
use Rattle.file.specs.Format.{Fields}
use Rattle.rules.specs.Texts.{texts}
use Rattle.trail.specs.Lists.{some}
use Rattle.trip.specs.Stops.{timed}
use Rattle.coded.proofs.LeftLaws.{treads, walks, left_here, left_kinded}
use Rattle.calling.proofs.CallingLaws.{three_numbers}
use Rattle.halts.proofs.HaltLaws.{walk_next, walk_less, behind_next, timed_here, timed_next, timed_end, visit_arrives, visit_departs, visit_none}
use Rattle.halts.proofs.timed_behind.Goals as goal
use Rattle.halts.proofs.timed_behind.Goals.{then-v-via-then-v, then-v-via-else-v+then-v-2}

pub cut-requires : goal.cut-requires
unfolding fields_of field_counts
cut-requires c =
    let a = c.args in
    let p = c.requires in
    left_here 8 a.f8.now a.paths.order.now a.paths.ways.now p.2 a.start p.0 p.1

pub onward-requires : goal.onward-requires
unfolding fields_of field_counts
onward-requires c =
    let a = c.args in
    let p = c.requires in
    (walks 8 a.f8.now a.paths.order.now a.paths.ways.now p.2 three_numbers a.start p.0, left_kinded 8 a.f8.now a.paths.order.now a.paths.ways.now p.2 a.start p.0 p.1 c.cut.ensures, p.3, p.4)

pub loop-step-init : goal.loop-step-init
unfolding fields_of field_counts
loop-step-init c =
    let a = c.args in
    let p = c.requires in
    let cut = c.cut.ensures in
    ((walk_next a.f8.now a.paths.order.now a.paths.ways.now p.2 a.line a.trip p.3 p.4 a.start p.1 cut _ c.onward.ensures).0, ap (λ (l : List Fields). some timed l) (sym (behind_next a.f8.now a.paths.order.now a.paths.ways.now p.2 a.line a.trip p.3 p.4 a.start p.1 cut _ c.onward.ensures)))

pub cut-next-requires : goal.cut-next-requires
unfolding fields_of field_counts
cut-next-requires c =
    let a = c.args in
    let p = c.requires in
    left_here 8 a.f8.now a.paths.order.now a.paths.ways.now p.2 c.loop-step.step.at c.loop-step.invariant.0.place c.loop-step-test.true

pub visit_of-v-requires : goal.visit_of-v-requires
unfolding fields_of field_counts
visit_of-v-requires c =
    let a = c.args in
    let p = c.requires in
    left_kinded 8 a.f8.now a.paths.order.now a.paths.ways.now p.2 c.loop-step.step.at c.loop-step.invariant.0.place c.loop-step-test.true c.cut-next.ensures

pub returns-then-v : goal.returns-then-v
unfolding fields_of field_counts
returns-then-v c =
    let a = c.args in
    let p = c.requires in
    let t : timed (texts 8 a.f8.now c.cut-next.new.places) ≡ true =
    elim c.then-v.branch [
      | then-v-via-then-v w ↦ visit_arrives _ _ c.visit_of-v.ensures w.if-v.true
      | then-v-via-else-v+then-v-2 w ↦ visit_departs _ _ c.visit_of-v.ensures w.if-v-2.true
    ] in
    sym (timed_here a.f8.now a.paths.order.now a.paths.ways.now p.2 a.line a.trip p.3 p.4 c.loop-step.step.at c.loop-step-test.true c.cut-next.ensures t)
    ∙ c.loop-step.invariant.1

pub step_on-step-requires : goal.step_on-step-requires
unfolding fields_of field_counts
step_on-step-requires c =
    let a = c.args in
    let p = c.requires in
    (walks 8 a.f8.now a.paths.order.now a.paths.ways.now p.2 three_numbers c.loop-step.step.at c.loop-step.invariant.0.place, left_kinded 8 a.f8.now a.paths.order.now a.paths.ways.now p.2 c.loop-step.step.at c.loop-step.invariant.0.place c.loop-step-test.true c.cut-next.ensures, treads 8 a.f8.now a.line a.trip c.loop-step.step.at c.loop-step.invariant.0.place c.loop-step-test.true c.cut-next.ensures (c.loop-step.invariant.0.mine c.loop-step-test.true), p.3, p.4)

pub loop-step-smaller : goal.loop-step-smaller
unfolding fields_of field_counts
loop-step-smaller c =
    let a = c.args in
    let p = c.requires in
    walk_less a.f8.now a.paths.order.now a.paths.ways.now p.2 a.line a.trip p.3 p.4 c.loop-step.step.at c.loop-step-test.true c.cut-next.ensures _ c.step_on-step.ensures

pub loop-step-preserved : goal.loop-step-preserved
unfolding fields_of field_counts
loop-step-preserved c =
    let a = c.args in
    let p = c.requires in
    let h = c.loop-step-test.true in
    ((walk_next a.f8.now a.paths.order.now a.paths.ways.now p.2 a.line a.trip p.3 p.4 c.loop-step.step.at h c.cut-next.ensures _ c.step_on-step.ensures).0, sym (timed_next a.f8.now a.paths.order.now a.paths.ways.now p.2 a.line a.trip p.3 p.4 c.loop-step.step.at h c.cut-next.ensures _ c.step_on-step.ensures (visit_none _ _ c.visit_of-v.ensures c.if-v.false c.if-v-2.false)) ∙ c.loop-step.invariant.1)

pub returns : goal.returns
returns c =
    let a = c.args in
    let p = c.requires in
    sym (timed_end a.f8.now a.paths.order.now a.paths.ways.now p.2 a.line a.trip p.3 p.4 c.loop-step.step.at c.loop-step-test.false) ∙ c.loop-step.invariant.1
