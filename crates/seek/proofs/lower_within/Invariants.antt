-- `seek::lower_within` meets its contract. The loop's invariant is what is required: the entry stands between `lo` and `hi`.
use Prim.Native.Nat.{◌-◌, ◌<◌}
use Rattle.keys.specs.Ranks.{rank_key}
use Rattle.seek.specs.Seek.{Between}
use Rattle.seek.proofs.lower_within.Given as goal

abbrev pub invariant-loop-left : goal.invariant-loop-left
invariant-loop-left l = Between l.file l.s l.order (rank_key l.x) l.left.lo l.left.hi × (0 < l.margin)

abbrev pub decreases-loop-left : goal.decreases-loop-left
decreases-loop-left l = l.left.hi - l.left.lo
