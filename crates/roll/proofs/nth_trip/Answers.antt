-- `roll::nth_trip` meets its contract. The loop's invariant: the records from `at` on are those from the ith on.
use Prim.Native.Nat.{◌-◌}
use native.Mathlib.Omega.{arith}
use Rattle.file.specs.Files.{fields_of}
use Rattle.lines.proofs.LineLaws.{next_line}
use Rattle.roll.proofs.RollLaws.{roll_start, roll_here, roll_next, roll_end}
use Rattle.roll.proofs.nth_trip.Goals as goal

pub loop-at-init : goal.loop-at-init
loop-at-init c =
    (omega arith, roll_start c.args.f6.now c.requires.key.legal)

pub returns-then-i-n : goal.returns-then-i-n
returns-then-i-n c =
    roll_here _ _ _ _ c.loop-at.invariant.1 c.if-i-n.true

pub loop-at-smaller : goal.loop-at-smaller
loop-at-smaller c =
    let w = next_line (fields_of 6) c.args.f6.now c.loop-at.at c.loop-at.invariant.1.place c.loop-at-test.true _ c.line_after-at.ensures in
    omega (arith, c.line_after-at.ensures, w.place.near, c.loop-at-test.true)

pub loop-at-preserved : goal.loop-at-preserved
loop-at-preserved c =
    (omega (arith, c.loop-at.invariant.0, c.if-i-n.false), roll_next _ _ _ c.loop-at.invariant.1 c.loop-at-test.true _ c.line_after-at.ensures)

pub returns : goal.returns
returns c =
    roll_end _ _ _ _ c.loop-at.invariant.1 c.loop-at.invariant.0 c.loop-at-test.false

pub overflow_add-i : goal.overflow_add-i
overflow_add-i c = omega (arith, c.loop-at.invariant.0, c.if-i-n.false)
