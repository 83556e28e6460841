-- `seek::lower` meets its contract: the entry that is hinted at, if there is one, leaves the first from x on behind it or not behind it.
use native.Mathlib.Omega.{arith}
use lib.ListN.{length}
use Rattle.keys.specs.Ranks.{rank_key}
use Rattle.seek.proofs.SeekLaws.{between_all, between_up, between_down}
use Rattle.seek.proofs.lower.Goals as goal

pub lower_from-requires : goal.lower_from-requires
lower_from-requires c =
    let a = c.args in
    let s = a.s.now in
    let o = a.order.now in
    let x = rank_key a.x in
    (c.requires.0, c.requires.1, c.requires.2, between_up a.file s o x 0 (length o) a.near (between_all a.file s o x) (omega arith) c.requires.1 c.is_below.ensures c.if-is_below.true)

pub lower_till-requires : goal.lower_till-requires
lower_till-requires c =
    let a = c.args in
    let s = a.s.now in
    let o = a.order.now in
    let x = rank_key a.x in
    (c.requires.0, c.requires.1, c.requires.2, between_down a.file s o x 0 (length o) a.near (between_all a.file s o x) (omega arith) (omega arith) c.is_below.ensures c.if-is_below.false)
