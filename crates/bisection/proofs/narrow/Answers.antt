-- `bisection::narrow` meets its contract. The loop's invariant: the answer is that of the records from `lo` on.
use mathlib.Core.Path.{◌∙◌}
use native.Mathlib.Omega.{arith}
use Rattle.bisection.proofs.narrow.Goals as goal

pub look-left-requires : goal.look-left-requires
look-left-requires c =
    let l = c.loop-left in
    let m = c.next_look-mid.ensures in (
      record { keyed = c.requires.0; rises = c.requires.1; going = l.invariant.1; low = m.0; high = m.1; near = l.invariant.0 },
      c.requires.4,
    )

pub loop-left-init : goal.loop-left-init
loop-left-init c = (c.requires.3, c.requires.2, omega arith)

pub overflow_add-left : goal.overflow_add-left
overflow_add-left c = let l = c.loop-left in omega (arith, l.invariant.1.place.near)

pub next_look-mid-requires : goal.next_look-mid-requires
next_look-mid-requires c = let l = c.loop-left in (omega arith, l.invariant.2)

pub loop-left-smaller : goal.loop-left-smaller
loop-left-smaller c = c.look-left.ensures.less

pub loop-left-preserved : goal.loop-left-preserved
loop-left-preserved c = (c.look-left.ensures.near, c.look-left.ensures.going, omega (arith, c.wider-margin.ensures))

pub scan-requires : goal.scan-requires
scan-requires c = (c.requires.0, c.loop-left.invariant.1.place, c.requires.4)

pub returns : goal.returns
returns c = c.scan.ensures ∙ c.loop-left.invariant.1.same
