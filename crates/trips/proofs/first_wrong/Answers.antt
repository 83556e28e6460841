-- `trips::first_wrong` meets its contract. The loop's invariant: the first fault of the trips from `at` on, the first of which is record k, is that
-- of all.
use mathlib.Core.Path.{sym, ◌∙◌}
use Prim.Native.Nat.{◌-◌}
use native.Mathlib.Omega.{arith}
use Rattle.file.specs.Files.{fields_of, field_counts}
use Rattle.lines.proofs.LineLaws.{place_start}
use Rattle.coded.proofs.LeftLaws.{left_here, left_kinded}
use Rattle.trips.specs.Answers.{numbered_timed}
use Rattle.trips.proofs.LeftLaws.{left_start, left_end, left_stop, left_next, apart, fault_few}
use Rattle.trips.proofs.first_wrong.Goals as goal

pub loop-at-init : goal.loop-at-init
loop-at-init c =
    let a = c.args in
    let p = c.requires in
    (left_start _ _ _ a.f6.now p.1.key.legal, rw c.none_tried-tried.ensures.0 (place_start (fields_of 10) a.f10.now p.3.key.legal), rw c.none_tried-tried.ensures.1 (place_start (fields_of 8) a.f8.now p.2.key.legal))

pub cut-next-requires : goal.cut-next-requires
unfolding fields_of field_counts
cut-next-requires c =
    let a = c.args in
    left_here 6 a.f6.now a.paths.order.now a.paths.ways.now c.requires.1 _ c.loop-at.invariant.0.place c.loop-at-test.true

pub trip_fault-tried-requires : goal.trip_fault-tried-requires
unfolding fields_of field_counts
trip_fault-tried-requires c =
    let a = c.args in
    let p = c.requires in
    (left_kinded 6 a.f6.now a.paths.order.now a.paths.ways.now p.1 _ c.loop-at.invariant.0.place c.loop-at-test.true c.cut-next.ensures, p.0, p.2, p.3, c.loop-at.invariant.1, c.loop-at.invariant.2)

pub returns-then-tried-eq10 : goal.returns-then-tried-eq10
unfolding numbered_timed fields_of field_counts
returns-then-tried-eq10 c =
    left_stop _ _ _ _ _ _ c.loop-at.invariant.0 _ _ _ c.cut-next.ensures 10 (sym c.if-tried-eq10.true ∙ c.trip_fault-tried.ensures.0) (λ z. absurd (omega arith))

pub returns-then-tried-eq11 : goal.returns-then-tried-eq11
unfolding numbered_timed fields_of field_counts
returns-then-tried-eq11 c =
    left_stop _ _ _ _ _ _ c.loop-at.invariant.0 _ _ _ c.cut-next.ensures 11 (sym c.if-tried-eq11.true ∙ c.trip_fault-tried.ensures.0) (λ z. absurd (omega arith))

pub overflow_add-k : goal.overflow_add-k
unfolding fields_of field_counts
overflow_add-k c =
    let z = apart _ _ _ _ _ _ c.loop-at.invariant.0 _ _ _ c.cut-next.ensures _ c.trip_fault-tried.ensures.0 in
    omega (arith, c.loop-at.invariant.0.count, z, c.cut-next.ensures.near)

pub loop-at-smaller : goal.loop-at-smaller
loop-at-smaller c =
    let x = c.cut-next.ensures in
    omega (arith, x.far, x.near)

pub loop-at-preserved : goal.loop-at-preserved
unfolding fields_of field_counts
loop-at-preserved c =
    let x = c.trip_fault-tried.ensures in
    let z = fault_few _ _ _ _ _ _ c.loop-at.invariant.0 _ _ _ c.cut-next.ensures _ x.0 c.if-tried-eq10.false c.if-tried-eq11.false in
    (left_next _ _ _ _ _ _ c.loop-at.invariant.0 _ _ _ c.cut-next.ensures _ x.0 z, x.1, x.2)

pub returns : goal.returns
unfolding numbered_timed
returns c = left_end _ _ _ _ _ _ c.loop-at.invariant.0 c.loop-at-test.false
