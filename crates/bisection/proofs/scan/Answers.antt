-- `bisection::scan` meets its contract. The loop's invariant: the answer is that of the records from `at` on.
use mathlib.Core.Path.{sym, ◌∙◌}
use native.Mathlib.Omega.{arith}
use borrow.Author.Tests.{ltb-true, ltb-false}
use Rattle.keys.specs.Ranks.{rank_key}
use Rattle.keys.proofs.KeyFileLaws.{key_here}
use Rattle.bisection.proofs.SoughtLaws.{sought_none, sought_next, sought_here, sought_end}
use Rattle.bisection.proofs.scan.Goals as goal

pub loop-at-init : goal.loop-at-init
loop-at-init c =
    let a = c.args in
    sought_none a.file a.s.now (rank_key a.x) a.from c.requires.1

pub key_at-requires : goal.key_at-requires
key_at-requires c =
    let l = c.loop-at in
    let a = c.args in
    key_here a.file a.s.now l.at c.requires.0 l.invariant.place (omega arith)

pub returns-then-not-less : goal.returns-then-not-less
returns-then-not-less c =
    let l = c.loop-at in
    let a = c.args in
    let k = c.key_at in
    let h = ltb-false (rank_key k.result) (rank_key a.x) (sym c.less.ensures ∙ c.if-not-less.true) in
    sought_here a.file a.s.now (rank_key a.x) a.from l.at l.invariant k.result (omega arith) k.ensures h

pub loop-at-preserved : goal.loop-at-preserved
loop-at-preserved c =
    let l = c.loop-at in
    let a = c.args in
    let k = c.key_at in
    let n = c.next_of-at in
    let h = ltb-true (rank_key k.result) (rank_key a.x) (sym c.less.ensures ∙ c.if-not-less.false) in
    sought_next a.file a.s.now (rank_key a.x) a.from l.at l.invariant k.result n.result (omega arith) k.ensures n.ensures h

pub returns : goal.returns
returns c =
    let l = c.loop-at in
    let a = c.args in
    sought_end a.file a.s.now (rank_key a.x) a.from l.at l.invariant c.loop-at-test.false

pub next_of-at-requires : goal.next_of-at-requires
next_of-at-requires c = (c.requires.0, c.loop-at.invariant.place, omega arith)
