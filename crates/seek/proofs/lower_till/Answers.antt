-- `seek::lower_till` meets its contract: no entry is left, or the last that is left is below x, or it isn't and the search goes on before it.
use mathlib.Core.Path.{◌≡◌}
use Prim.Native.Nat.{◌+◌, ◌-◌}
use native.Mathlib.Omega.{arith}
use Rattle.keys.specs.Ranks.{rank_key}
use Rattle.seek.proofs.SeekLaws.{between_up, between_down, between_met}
use Rattle.seek.proofs.lower_till.Goals as goal
use Rattle.seek.proofs.lower_till.Goals.{then-end-eq0-via-then-end-eq0, then-end-eq0-via-else-end-eq0+then-is_below}

pub returns-then-end-eq0 : goal.returns-then-end-eq0
returns-then-end-eq0 c =
    let a = c.args in
    let s = a.s.now in
    let o = a.order.now in
    let x = rank_key a.x in
    elim c.then-end-eq0.branch [
      | then-end-eq0-via-then-end-eq0 w ↦ let e : a.end ≡ 0 = omega arith in between_met a.file s o x a.end a.end (rw (← e) at c.requires.3) (omega arith)
      | then-end-eq0-via-else-end-eq0+then-is_below w ↦
          let e : a.end - 1 + 1 ≡ a.end = omega arith in
          let b = between_up a.file s o x 0 a.end (a.end - 1) c.requires.3 (omega arith) c.requires.1 w.is_below.ensures w.if-is_below.true in
          between_met a.file s o x a.end a.end (rw e at b) (omega arith)
    ]

pub lower_within-requires : goal.lower_within-requires
lower_within-requires c =
    let a = c.args in
    (c.requires.0, c.requires.1, c.requires.2, between_down a.file a.s.now a.order.now (rank_key a.x) 0 a.end (a.end - 1) c.requires.3 (omega arith) (omega arith) c.is_below.ensures c.if-is_below.false)
