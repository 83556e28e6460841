-- `seek::lower_from` meets its contract: no entry is left, or the first that is left isn't below x, or it is and the search goes on behind it.
use native.Mathlib.Omega.{arith}
use lib.ListN.{length}
use Rattle.keys.specs.Ranks.{rank_key}
use Rattle.seek.proofs.SeekLaws.{between_up, between_down, between_met}
use Rattle.seek.proofs.lower_from.Goals as goal
use Rattle.seek.proofs.lower_from.Goals.{else-from-order-via-then-from-order+else-is_below, else-from-order-via-else-from-order}

pub lower_within-requires : goal.lower_within-requires
lower_within-requires c =
    let a = c.args in
    let o = a.order.now in
    (c.requires.0, c.requires.1, c.requires.2, between_up a.file a.s.now o (rank_key a.x) a.from (length o) a.from c.requires.3 (omega arith) c.requires.1 c.is_below.ensures c.if-is_below.true)

pub returns : goal.returns
returns c =
    let a = c.args in
    let s = a.s.now in
    let o = a.order.now in
    let x = rank_key a.x in
    elim c.else-from-order.branch [
      | else-from-order-via-then-from-order+else-is_below w ↦
          let b = between_down a.file s o x a.from (length o) a.from c.requires.3 (omega arith) (omega arith) w.is_below.ensures w.if-is_below.false in
          between_met a.file s o x a.from a.from b (omega arith)
      | else-from-order-via-else-from-order w ↦ between_met a.file s o x a.from (length o) c.requires.3 (omega arith)
    ]
