-- `keys::number_at` meets its contract. The loop's invariant: the digits that are left, after digits worth `v`, make the number, and those
-- passed are worth less than 10 to their number, so no sum wraps.
use mathlib.Core.Path.{◌≡◌}
use lib.ListN.{length}
use native.Mathlib.Omega.{arith}
use Rattle.keys.proofs.DigitLaws.{passed_none, passed_some, passed_one, passed_all, digits_low, digits_high, digits_end}
use Rattle.keys.proofs.number_at.Goals as goal
use Rattle.keys.proofs.number_at.Goals.{then-b-lt48-via-then-b-lt48, then-b-lt48-via-else-b-lt48+then-b-gt57}

pub loop-i-init : goal.loop-i-init
loop-i-init c = passed_none c.args.s.now c.args.at

pub returns-then-b-lt48 : goal.returns-then-b-lt48
returns-then-b-lt48 c =
    let l = c.loop-i in
    let a = c.args in
    passed_all a.s.now a.at l.v l.i l.invariant
    (elim c.then-b-lt48.branch [ then-b-lt48-via-then-b-lt48 w ↦ digits_low a.s.now l.i (omega arith) (omega arith) | then-b-lt48-via-else-b-lt48+then-b-gt57 w ↦ digits_high a.s.now l.i (omega arith) (omega arith) ])

pub overflow_mul-v : goal.overflow_mul-v
overflow_mul-v c =
    let l = c.loop-i in
    omega (arith, passed_some c.args.s.now c.args.at l.v l.i l.invariant (omega arith) (omega arith) (omega arith) c.requires.1)

pub overflow_add-v : goal.overflow_add-v
overflow_add-v c =
    let l = c.loop-i in
    omega (arith, passed_some c.args.s.now c.args.at l.v l.i l.invariant (omega arith) (omega arith) (omega arith) c.requires.1)

pub loop-i-preserved : goal.loop-i-preserved
loop-i-preserved c =
    let l = c.loop-i in
    let a = c.args in
    passed_one a.s.now a.at l.v l.i l.invariant (omega arith) (omega arith) (omega arith)

pub returns : goal.returns
returns c =
    let l = c.loop-i in
    let a = c.args in
    let e : l.i ≡ length a.s.now = omega arith in
    rw e at (passed_all a.s.now a.at l.v l.i l.invariant (digits_end a.s.now l.i c.loop-i-test.false))
