-- `trips::none_wrong` meets its contract. The loop's invariant: nothing is wrong with the trips that the entries below i name.
use mathlib.Core.Path.{sym}
use native.Mathlib.Omega.{arith}
use borrow.Author.Tests.{eqb-false}
use Rattle.laws.specs.Tests.{never}
use Rattle.file.specs.Files.{fields_of, field_counts}
use Rattle.lines.proofs.LineLaws.{place_start}
use Rattle.coded.proofs.LeftLaws.{left_here, left_kinded}
use Rattle.trips.proofs.IndexedLaws.{indexed, fit_all, fit_more}
use Rattle.trips.proofs.none_wrong.Goals as goal

pub index_of-part-requires : goal.index_of-part-requires
index_of-part-requires c =
    let r = c.requires.1 in
    (omega arith, r.size, r.way.ends, r.way.near)

pub index_of-stops-requires : goal.index_of-stops-requires
index_of-stops-requires c =
    let r = c.requires.2 in
    (omega arith, r.size, r.way.ends, r.way.near)

pub index_of-codes-requires : goal.index_of-codes-requires
index_of-codes-requires c =
    let r = c.requires.3 in
    (omega arith, r.size, r.way.ends, r.way.near)

pub loop-i-init : goal.loop-i-init
loop-i-init c =
    let a = c.args in
    let p = c.requires in
    (indexed a.f6.now a.paths.order.now a.paths.ways.now _ p.1 c.index_of-part.ensures (eqb-false _ _ (sym c.if-is_empty.ensures)), (λ j h. absurd (omega arith)), rw c.none_tried-tried.ensures.0 (place_start (fields_of 10) a.f10.now p.3.key.legal), rw c.none_tried-tried.ensures.1 (place_start (fields_of 8) a.f8.now p.2.key.legal))

pub cut-requires : goal.cut-requires
unfolding fields_of field_counts
cut-requires c =
    let a = c.args in
    let w = c.loop-i.invariant.0.start c.loop-i.i (omega arith) in
    left_here 6 a.f6.now a.paths.order.now a.paths.ways.now c.requires.1 _ w.place w.within

pub trip_fault-tried-requires : goal.trip_fault-tried-requires
unfolding fields_of field_counts
trip_fault-tried-requires c =
    let a = c.args in
    let p = c.requires in
    let w = c.loop-i.invariant.0.start c.loop-i.i (omega arith) in
    (left_kinded 6 a.f6.now a.paths.order.now a.paths.ways.now p.1 _ w.place w.within c.cut.ensures, p.0, p.2, p.3, c.loop-i.invariant.2, c.loop-i.invariant.3)

pub loop-i-preserved : goal.loop-i-preserved
unfolding fields_of field_counts
loop-i-preserved c =
    let x = c.trip_fault-tried.ensures in
    let v = c.loop-i.invariant in
    (v.0, fit_more _ _ _ _ c.index_of-part.result.now c.loop-i.i v.1 _ _ _ c.cut.ensures _ x.0 c.if-tried-ne0.false, x.1, x.2)

pub returns : goal.returns
returns c =
    (λ e. fit_all _ _ _ _ _ _ c.loop-i.invariant.0 c.requires.1.key.legal c.loop-i.invariant.1 (omega arith))

pub returns-then-is_empty : goal.returns-then-is_empty
returns-then-is_empty c = (λ e. never e)

pub returns-then-not-goes_on : goal.returns-then-not-goes_on
returns-then-not-goes_on c = (λ e. never e)

pub returns-then-tried-ne0 : goal.returns-then-tried-ne0
returns-then-tried-ne0 c = (λ e. never e)
