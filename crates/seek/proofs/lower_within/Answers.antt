-- `seek::lower_within` meets its contract. The loop's invariant is what is required: the entry stands between `lo` and `hi`.
use native.Mathlib.Omega.{arith}
use Rattle.keys.specs.Ranks.{rank_key}
use Rattle.seek.proofs.SeekLaws.{between_met}
use Rattle.seek.proofs.lower_within.Goals as goal

pub begin-left-requires : goal.begin-left-requires
begin-left-requires c =
    let p = c.requires in
    (p.0, p.1, p.3.ends, p.3.near)

pub loop-left-init : goal.loop-left-init
loop-left-init c =
    let p = c.requires in
    (rw (c.begin-left.ensures.0, c.begin-left.ensures.1) p.3, omega arith)

pub look-left-requires : goal.look-left-requires
look-left-requires c =
    let l = c.loop-left in
    let p = c.requires in
    let m = c.next_look-mid.ensures in
    (p.0, p.1, p.2, l.invariant.0, m.0, m.1)

pub returns : goal.returns
returns c =
    let a = c.args in
    let l = c.loop-left in
    between_met a.file a.s.now a.order.now (rank_key a.x) l.left.lo l.left.hi l.invariant.0 c.loop-left-test.false

pub next_look-mid-requires : goal.next_look-mid-requires
next_look-mid-requires c = let l = c.loop-left in (omega arith, l.invariant.1)

pub loop-left-smaller : goal.loop-left-smaller
loop-left-smaller c = c.look-left.ensures.1

pub loop-left-preserved : goal.loop-left-preserved
loop-left-preserved c = (c.look-left.ensures.0, omega (arith, c.wider-margin.ensures))
