-- `tally::line_feeds` meets its contract. The loop's invariant: `n` and the LFs from there on are all.
use native.Mathlib.Omega.{arith}
use Rattle.tally.proofs.FeedLaws.{feeds_hit, feeds_miss, feeds_end, feeds_most}
use Rattle.tally.proofs.line_feeds.Goals as goal
use Rattle.tally.proofs.line_feeds.Goals.{then-b-eq10, else-b-eq10}

pub overflow_add-n : goal.overflow_add-n
overflow_add-n c = omega (arith, c.loop-b.invariant, feeds_most c.args.s.now)

pub loop-b-preserved : goal.loop-b-preserved
loop-b-preserved c =
    let l = c.loop-b in
    let s = c.args.s.now in
    elim c.if-b-eq10.branch [
      | then-b-eq10 w ↦ omega (arith, feeds_hit s l.b-index (omega arith) w.if-b-eq10.true)
      | else-b-eq10 w ↦ omega (arith, feeds_miss s l.b-index (omega arith) w.if-b-eq10.false)
    ]

pub returns : goal.returns
returns c = omega (arith, c.loop-b.invariant, feeds_end c.args.s.now c.loop-b.b-index (omega arith))
