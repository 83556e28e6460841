-- `timecodes::types_of` meets its contract. The loop's invariant: what the list and the marks come to behind the time codes that are left is
-- what they come to behind all.
use native.Mathlib.Omega.{arith}
use Rattle.timecodes.proofs.TimeCodeLaws.{walks_at, record_there, cut_kinds, cut_meets, cut_treads, left_less, typing_start, typing_next, typing_end}
use Rattle.timecodes.proofs.types_of.Goals as goal

pub first_step-step-requires : goal.first_step-step-requires
first_step-step-requires c =
    let p = c.requires in
    (walks_at _ _ _ p.0 _ p.1, p.2, p.3)

pub loop-step-init : goal.loop-step-init
loop-step-init c =
    let p = c.requires in
    typing_start _ _ _ p.0 _ _ p.2 p.3 _ _ _ p.1 c.first_step-step.ensures

pub cut-next-requires : goal.cut-next-requires
cut-next-requires c =
    let p = c.requires in
    record_there _ _ _ p.0 _ _ p.2 p.3 _ c.loop-step.invariant.place c.loop-step-test.true

pub type_of-kind-requires : goal.type_of-kind-requires
type_of-kind-requires c =
    let p = c.requires in
    cut_kinds _ _ _ p.0 _ _ p.2 p.3 _ c.loop-step.invariant.place c.loop-step-test.true c.cut-next.ensures

pub mark_on-m-requires : goal.mark_on-m-requires
mark_on-m-requires c =
    let p = c.requires in (
      cut_kinds _ _ _ p.0 _ _ p.2 p.3 _ c.loop-step.invariant.place c.loop-step-test.true c.cut-next.ensures,
      cut_meets _ _ _ p.0 _ _ p.2 p.3 _ c.loop-step.invariant.place c.loop-step-test.true c.cut-next.ensures,
      c.type_of-kind.ensures.0,
    )

pub step_on-step-requires : goal.step_on-step-requires
step_on-step-requires c =
    let p = c.requires in
    (walks_at _ _ _ p.0 _ c.loop-step.invariant.place, cut_kinds _ _ _ p.0 _ _ p.2 p.3 _ c.loop-step.invariant.place c.loop-step-test.true c.cut-next.ensures, cut_treads _ _ _ p.0 _ _ p.2 p.3 _ c.loop-step.invariant.place c.loop-step-test.true c.cut-next.ensures (c.loop-step.invariant.mine c.loop-step-test.true), p.2, p.3)

pub loop-step-smaller : goal.loop-step-smaller
loop-step-smaller c =
    let p = c.requires in
    left_less _ _ _ p.0 _ _ p.2 p.3 _ c.loop-step-test.true c.cut-next.ensures _ c.step_on-step.ensures c.loop-step.invariant.place

pub loop-step-preserved : goal.loop-step-preserved
loop-step-preserved c =
    let p = c.requires in
    typing_next _ _ _ p.0 _ _ p.2 p.3 _ c.loop-step-test.true c.cut-next.ensures _ c.step_on-step.ensures _ _ _ _ _ c.loop-step.invariant
    _ c.type_of-kind.ensures.0 _ c.mark_on-m.ensures.0 _ c.mark_on-m.ensures.1

pub returns : goal.returns
returns c =
    let p = c.requires in
    let e = typing_end _ _ _ p.0 _ _ p.2 p.3 _ _ _ _ _ _ c.loop-step.invariant c.loop-step-test.false in
    (e.0, e.1, c.loop-step.invariant.stood)

pub offset_bounds-seen-kind : goal.offset_bounds-seen-kind
offset_bounds-seen-kind c = omega (arith, c.type_of-kind.ensures.1)

pub bounds-seen-kind : goal.bounds-seen-kind
bounds-seen-kind c = omega (arith, c.type_of-kind.ensures.1, c.loop-step.invariant.size, c.requires.4)

pub shape_of-seen : goal.shape_of-seen
shape_of-seen c = c.loop-step.invariant.size
