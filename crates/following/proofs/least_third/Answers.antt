-- `following::least_third` meets its contract. The loop's invariant: the lesser of `least` and the least number from the record at `at` on is that
-- of all.
use native.Mathlib.Omega.{arith}
use Rattle.keys.proofs.KeyFileLaws.{key_here}
use Rattle.find.proofs.TripLaws.{pass_start, pass_next, pass_end}
use Rattle.following.proofs.least_third.Goals as goal

pub loop-at-preserved : goal.loop-at-preserved
loop-at-preserved c =
    let l = c.loop-at in
    let a = c.args in
    let k = c.key_at in
    let n = c.nearer-least in
    let e = c.line_after-at in
    pass_next a.file a.line a.trip a.x a.s.now l.least l.at l.invariant c.requires.0 c.requires.1 c.requires.3 (omega arith) k.result k.ensures
    n.result n.ensures e.result e.ensures

pub returns : goal.returns
returns c =
    let l = c.loop-at in
    let a = c.args in
    pass_end a.file a.line a.trip a.x a.s.now l.least l.at l.invariant c.loop-at-test.false

pub loop-at-init : goal.loop-at-init
loop-at-init c = let a = c.args in pass_start a.file a.line a.trip a.x a.s.now c.requires.0

pub key_at-requires : goal.key_at-requires
key_at-requires c = key_here _ _ _ c.requires.0 c.loop-at.invariant.place c.loop-at-test.true

pub loop-at-smaller : goal.loop-at-smaller
loop-at-smaller c = omega (arith, c.line_after-at.ensures)
