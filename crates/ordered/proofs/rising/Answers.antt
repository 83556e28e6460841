-- `ordered::rising` meets its contract. The loop's invariant: the file's keys rise if those from `at` on do, after `last`.
use mathlib.Core.Path.{sym, ◌∙◌}
use native.Mathlib.Omega.{arith}
use borrow.Author.Tests.{eqb-true, eqb-false, ltb-true, ltb-false}
use Rattle.file.specs.Files.{fields_of}
use Rattle.lines.proofs.OrderLaws.{rises_none}
use Rattle.keys.specs.Ranks.{rank_of, rank_key}
use Rattle.keys.proofs.KeyFileLaws.{key_here}
use Rattle.bisection.proofs.SoughtLaws.{start}
use Rattle.ordered.proofs.OrderedLaws.{passed_first, passed_next, passed_stop, passed_end}
use Rattle.ordered.proofs.rising.Goals as goal

pub returns-then-is_empty : goal.returns-then-is_empty
returns-then-is_empty c =
    let a = c.args in
    let e = eqb-true _ _ (sym c.is_empty.ensures ∙ c.if-is_empty.true) in
    sym (rises_none (fields_of a.file) (rank_of a.file) a.s.now (omega arith))

pub key_at-last-requires : goal.key_at-last-requires
key_at-last-requires c =
    let a = c.args in
    let e = eqb-false _ _ (sym c.is_empty.ensures ∙ c.if-is_empty.false) in
    key_here a.file a.s.now 0 c.requires (start a.file a.s.now c.requires) (omega arith)

pub loop-at-init : goal.loop-at-init
loop-at-init c =
    let a = c.args in
    let k = c.key_at-last in
    let n = c.next_of-at in
    let e = eqb-false _ _ (sym c.is_empty.ensures ∙ c.if-is_empty.false) in
    passed_first a.file a.s.now k.result n.result c.requires (omega arith) k.ensures n.ensures

pub key_at-k-requires : goal.key_at-k-requires
key_at-k-requires c =
    let l = c.loop-at in
    let a = c.args in
    key_here a.file a.s.now l.at c.requires l.invariant.place (omega arith)

pub returns-then-not-less : goal.returns-then-not-less
returns-then-not-less c =
    let l = c.loop-at in
    let a = c.args in
    let k = c.key_at-k in
    let h = ltb-false (rank_key l.last) (rank_key k.result) (sym c.less.ensures ∙ c.if-not-less.true) in
    passed_stop a.file a.s.now l.last l.at l.invariant k.result (omega arith) k.ensures h

pub loop-at-preserved : goal.loop-at-preserved
loop-at-preserved c =
    let l = c.loop-at in
    let a = c.args in
    let k = c.key_at-k in
    let n = c.next_of-at-in-loop-at in
    let h = ltb-true (rank_key l.last) (rank_key k.result) (sym c.less.ensures ∙ c.if-not-less.false) in
    passed_next a.file a.s.now l.last l.at l.invariant k.result n.result (omega arith) k.ensures n.ensures h

pub returns : goal.returns
returns c =
    let l = c.loop-at in
    let a = c.args in
    passed_end a.file a.s.now l.last l.at l.invariant c.loop-at-test.false

pub next_of-at-requires : goal.next_of-at-requires
next_of-at-requires c =
    let e = eqb-false _ _ (sym c.is_empty.ensures ∙ c.if-is_empty.false) in
    (c.requires, start c.args.file c.args.s.now c.requires, omega arith)

pub next_of-at-requires-in-loop-at : goal.next_of-at-requires-in-loop-at
next_of-at-requires-in-loop-at c = (c.requires, c.loop-at.invariant.place, omega arith)
