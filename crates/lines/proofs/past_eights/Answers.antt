-- `lines::past_eights` meets its contract. The loop's invariant is that of `line_after`; a turn passes two fours.
use mathlib.Core.Path.{◌≡◌}
use Prim.Native.Nat.{◌+◌}
use native.Mathlib.Omega.{arith}
use Rattle.lines.proofs.past_eights.Goals as goal

pub loop-i-preserved : goal.loop-i-preserved
loop-i-preserved c =
    let i = c.loop-i.i in
    let a = c.plain_four.ensures in
    let b = c.plain_four-in-loop-i.ensures in
    let x = a.1 (omega (arith, c.if-plain_four-ne8.false, a.0, b.0)) in
    let y = b.1 (omega (arith, c.if-plain_four-ne8.false, a.0, b.0)) in
    let e : i + 4 + 4 ≡ i + 8 = omega arith in
    omega (arith, x, rw e at y)
