-- `ordered::first_from` meets its contract: where the last key isn't above x, the search starts there or behind it; else it is of what is before it.
use mathlib.Core.Path.{sym, ◌∙◌}
use native.Mathlib.Omega.{arith}
use borrow.Author.Tests.{eqb-true, ltb-true, ltb-false}
use Rattle.keys.specs.Ranks.{rank_key}
use Rattle.keys.proofs.KeyFileLaws.{key_here}
use Rattle.bisection.proofs.SoughtLaws.{step, sought_here, sought_end}
use Rattle.ordered.proofs.OrderedLaws.{there_found, there_passed}
use Rattle.ordered.proofs.first_from.Goals as goal

pub key_at-k-requires : goal.key_at-k-requires
key_at-k-requires c =
    let a = c.args in
    key_here a.file a.s.now a.last c.requires.0 c.requires.2 (omega arith)

pub returns-then-equal : goal.returns-then-equal
returns-then-equal c =
    let k = c.key_at-k in
    let a = c.args in
    let e = eqb-true (rank_key k.result) (rank_key a.x) (sym c.equal.ensures ∙ c.if-equal.true) in
    there_found a.file a.s.now (rank_key a.x) a.last c.requires.1 c.requires.2 (omega arith) k.result k.ensures e

pub returns-then-next-s : goal.returns-then-next-s
returns-then-next-s c =
    let n = c.next_of-next in
    let k = c.key_at-k in
    let a = c.args in
    let l = ltb-true (rank_key k.result) (rank_key a.x) (sym c.less.ensures ∙ c.if-not-less.false) in
    let w = there_passed a.file a.s.now (rank_key a.x) a.last c.requires.1 c.requires.2 (omega arith)
    k.result k.ensures n.result n.ensures l in
    sought_end a.file a.s.now (rank_key a.x) 0 n.result w (omega arith)

pub key_at-j-requires : goal.key_at-j-requires
key_at-j-requires c =
    let n = c.next_of-next in
    let a = c.args in
    let w = step a.file a.s.now a.last n.result c.requires.2 (omega arith) n.ensures in
    key_here a.file a.s.now n.result c.requires.0 w.place (omega arith)

pub returns-then-not-less-2 : goal.returns-then-not-less-2
returns-then-not-less-2 c =
    let j = c.key_at-j in
    let n = c.next_of-next in
    let k = c.key_at-k in
    let a = c.args in
    let l = ltb-true (rank_key k.result) (rank_key a.x) (sym c.less.ensures ∙ c.if-not-less.false) in
    let h = ltb-false (rank_key j.result) (rank_key a.x) (sym c.less-2.ensures ∙ c.if-not-less-2.true) in
    let w = there_passed a.file a.s.now (rank_key a.x) a.last c.requires.1 c.requires.2 (omega arith)
    k.result k.ensures n.result n.ensures l in
    sought_here a.file a.s.now (rank_key a.x) 0 n.result w j.result (omega arith) j.ensures h

pub narrow-requires : goal.narrow-requires
narrow-requires c =
    let n = c.next_of-next in
    let k = c.key_at-k in
    let a = c.args in
    let l = ltb-true (rank_key k.result) (rank_key a.x) (sym c.less.ensures ∙ c.if-not-less.false) in
    let w = there_passed a.file a.s.now (rank_key a.x) a.last c.requires.1 c.requires.2 (omega arith)
    k.result k.ensures n.result n.ensures l in
    (c.requires.0, c.requires.1, w, omega arith, c.requires.3)
