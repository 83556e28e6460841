-- `preceding::number_by_search` meets its contract. The loop's invariant: the greater of `most` and the number of the records from `at` on is
-- that of all.
use native.Mathlib.Omega.{arith}
use Rattle.keys.proofs.KeyFileLaws.{key_here}
use Rattle.previous.proofs.PreviousLaws.{pass_start, pass_next, pass_end}
use Rattle.preceding.proofs.number_by_search.Goals as goal

pub loop-at-preserved : goal.loop-at-preserved
loop-at-preserved c =
    let l = c.loop-at in
    let a = c.args in
    let k = c.key_at in
    let n = c.nearer-most in
    let e = c.line_after-at in
    pass_next a.file a.line a.trip a.x a.s.now l.most l.at l.invariant c.requires.0 c.requires.1 c.requires.3 (omega arith) k.result k.ensures
    n.result n.ensures e.result e.ensures

pub returns : goal.returns
returns c =
    let l = c.loop-at in
    let a = c.args in
    pass_end a.file a.line a.trip a.x a.s.now l.most l.at l.invariant c.loop-at-test.false

pub loop-at-init : goal.loop-at-init
loop-at-init c = let a = c.args in pass_start a.file a.line a.trip a.x a.s.now c.requires.0

pub key_at-requires : goal.key_at-requires
key_at-requires c = key_here _ _ _ c.requires.0 c.loop-at.invariant.place c.loop-at-test.true

pub nearer-most-requires : goal.nearer-most-requires
nearer-most-requires c = c.key_at.ensures.low

pub loop-at-smaller : goal.loop-at-smaller
loop-at-smaller c = omega (arith, c.line_after-at.ensures)
