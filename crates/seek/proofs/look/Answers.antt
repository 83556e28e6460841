-- `seek::look` meets its contract: the entry that is looked at leaves the one that is sought on one side.
use native.Mathlib.Omega.{arith}
use Rattle.keys.specs.Ranks.{rank_key}
use Rattle.seek.proofs.SeekLaws.{below_by_key, between_up, between_down}
use Rattle.seek.proofs.look.Goals as goal

pub returns-then-less : goal.returns-then-less
returns-then-less c =
    let a = c.args in
    let e = below_by_key (rank_key a.x) c.entry_key-k.ensures c.less.ensures in
    let w = between_up a.file a.s.now a.order.now (rank_key a.x) a.left.lo a.left.hi a.mid c.requires.3 c.requires.5 c.requires.1 e c.if-less.true in
    (w, omega (arith, c.requires.4, c.requires.5))

pub returns : goal.returns
returns c =
    let a = c.args in
    let e = below_by_key (rank_key a.x) c.entry_key-k.ensures c.less.ensures in
    let w = between_down a.file a.s.now a.order.now (rank_key a.x) a.left.lo a.left.hi a.mid c.requires.3 c.requires.5 c.requires.4 e c.if-less.false in
    (w, omega (arith, c.requires.4, c.requires.5))
