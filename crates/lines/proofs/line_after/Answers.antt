-- `lines::line_after` meets its contract. The loop's invariant: the line that `at` stands in ends where the line that `i` stands in does.
use native.Mathlib.Omega.{arith}
use Rattle.lines.proofs.LineLaws.{lead_hit, lead_miss, lead_end}
use Rattle.lines.proofs.line_after.Goals as goal

pub returns-then-s-i-eq10 : goal.returns-then-s-i-eq10
returns-then-s-i-eq10 c =
    let a = c.args in
    omega (arith, lead_hit a.s.now c.loop-i.i (omega arith) c.if-s-i-eq10.true)

pub loop-i-preserved : goal.loop-i-preserved
loop-i-preserved c =
    omega (arith, lead_miss c.args.s.now c.loop-i.i (omega arith) c.if-s-i-eq10.false)

pub returns : goal.returns
returns c =
    let a = c.args in
    omega (arith, lead_end a.s.now c.loop-i.i c.loop-i-test.false)
