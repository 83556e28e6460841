-- `faulty::file_order_fault` meets its contract. The loop's invariant: the first fault of the records from `at` on, the first of which is
-- record k, is that of the file.
use mathlib.Core.Path.{sym, ◌∙◌}
use Prim.Native.Nat.{ℕ}
use native.Mathlib.Omega.{arith}
use Rattle.link.specs.Stage.{numbered_linked}
use Rattle.faulty.proofs.StageLaws.{left_start, left_end, left_record, left_asked, left_known, left_used, left_amiss, left_next, amiss_found}
use Rattle.faulty.proofs.file_order_fault.Goals as goal

pub loop-at-init : goal.loop-at-init
loop-at-init c =
    let file = c.args.file in
    (left_start _ file _ c.file_of-s.ensures (c.requires.2.sound file c.requires.0 c.requires.1).legal, c.requires.2.looks.lasts)

pub cut-next-requires : goal.cut-next-requires
cut-next-requires c =
    let file : ℕ = c.args.file in
    left_record _ file _ _ _ c.loop-at.invariant.0 c.loop-at-test.true _ c.fields_of-n.ensures

pub is_used-requires : goal.is_used-requires
is_used-requires c =
    let file : ℕ = c.args.file in
    let p = c.requires in
    left_asked _ file _ _ _ c.loop-at.invariant.0 c.loop-at-test.true _ _ _ p.0 c.file_of-s.ensures p.2

pub returns-then-is_used : goal.returns-then-is_used
unfolding numbered_linked
returns-then-is_used c =
    let file : ℕ = c.args.file in
    (left_used _ file _ _ _ _ _ _ _ c.loop-at.invariant.0 c.fields_of-n.ensures c.cut-next.ensures _ c.is_used.ensures c.if-is_used.true, c.loop-at.invariant.1)

pub first_amiss-f-requires : goal.first_amiss-f-requires
first_amiss-f-requires c =
    let file : ℕ = c.args.file in
    let p = c.requires in
    left_known _ file _ _ _ _ _ _ _ c.loop-at.invariant.0 c.fields_of-n.ensures c.cut-next.ensures _ _ _ _ p.0 p.1 c.file_of-s.ensures p.2 c.loop-at.invariant.1

pub fault_at-requires : goal.fault_at-requires
fault_at-requires c =
    let file : ℕ = c.args.file in
    let p = c.requires in
    let x = c.first_amiss-f.ensures in
    let k = left_known _ file _ _ _ _ _ _ _ c.loop-at.invariant.0 c.fields_of-n.ensures c.cut-next.ensures _ _ _ _ p.0 p.1 c.file_of-s.ensures p.2 x.1 in
    (k, amiss_found _ file _ _ x.0 c.if-f-ne0.true)

pub returns-then-f-ne0 : goal.returns-then-f-ne0
returns-then-f-ne0 c =
    let file : ℕ = c.args.file in
    let x = c.first_amiss-f in
    (c.fault_at.ensures.0 ∙ left_amiss _ file _ _ _ _ _ _ _ c.loop-at.invariant.0 c.fields_of-n.ensures c.cut-next.ensures _ c.is_used.ensures c.if-is_used.false _ x.ensures.0 c.if-f-ne0.true, c.fault_at.ensures.1)

pub loop-at-preserved : goal.loop-at-preserved
loop-at-preserved c =
    let file : ℕ = c.args.file in
    let x = c.first_amiss-f in
    (left_next _ file _ _ _ _ _ _ _ c.loop-at.invariant.0 c.fields_of-n.ensures c.cut-next.ensures _ c.is_used.ensures c.if-is_used.false _ x.ensures.0 c.if-f-ne0.false, x.ensures.1)

pub returns : goal.returns
unfolding numbered_linked
returns c =
    let file : ℕ = c.args.file in
    (sym (left_end _ file _ _ _ c.loop-at.invariant.0 c.loop-at-test.false), c.loop-at.invariant.1)

pub overflow_add-k : goal.overflow_add-k
overflow_add-k c = omega (arith, c.loop-at.invariant.0.count, c.cut-next.ensures.far, c.cut-next.ensures.near)

pub loop-at-smaller : goal.loop-at-smaller
loop-at-smaller c = let x = c.cut-next.ensures in
    omega (arith, x.far, x.near)
