-- `previous::line_before` meets its contract. The loop's invariant: the line of the byte before `i` ends before `at`.
use Prim.Native.Nat.{◌-◌}
use native.Mathlib.Omega.{arith}
use Rattle.previous.proofs.LineBackLaws.{back_first, back_turn}
use Rattle.previous.proofs.line_before.Goals as goal

pub loop-i-init : goal.loop-i-init
loop-i-init c =
    let a = c.args in
    (omega arith, back_first a.s.now a.at c.requires.0 c.requires.1 c.requires.2)

pub loop-i-preserved : goal.loop-i-preserved
loop-i-preserved c =
    let l = c.loop-i in
    let a = c.args in
    (omega arith, back_turn a.s.now a.at (l.i - 1) (omega arith) (omega arith) c.if-s-i-eq10.false l.invariant.1)
