-- `hinted::look_at` meets its contract. The loop's invariant is what is known of the entries below `i`.
use mathlib.Core.Path.{sym, ◌∙◌}
use native.Mathlib.Omega.{arith}
use lib.ListN.{get_or}
use borrow.Author.Tests.{eqb-true}
use Rattle.keys.proofs.KeyFileLaws.{key_here}
use Rattle.hinted.proofs.HintedLaws.{seen_more, seen_all, seen_none}
use Rattle.hinted.proofs.look_at.Goals as goal

pub returns-then-is_empty : goal.returns-then-is_empty
returns-then-is_empty c =
    seen_none c.args.file c.args.s.now c.args.order.now c.requires.1 (eqb-true _ _ (sym c.is_empty.ensures ∙ c.if-is_empty.true))

pub key_at-last-requires : goal.key_at-last-requires
key_at-last-requires c =
    let a = c.args in
    let w = c.is_start.ensures (c.if-not-is_start.false) in
    key_here a.file a.s.now (get_or a.order.now 0 0) c.requires.0 w.place w.within

pub key_at-k-requires : goal.key_at-k-requires
key_at-k-requires c =
    let a = c.args in
    let w = c.is_start-else-not-list_goes_on.ensures (c.if-not-is_start-2.false) in
    key_here a.file a.s.now (get_or a.order.now c.loop-i.i 0) c.requires.0 w.place w.within

pub loop-i-preserved : goal.loop-i-preserved
loop-i-preserved c =
    let l = c.loop-i in
    let a = c.args in
    let w = c.is_start-else-not-list_goes_on.ensures (c.if-not-is_start-2.false) in
    seen_more a.file a.s.now a.order.now l.was l.last l.kind l.i l.invariant (omega (arith, c.loop-i-test.true))
    c.key_at-k.result c.step-how.result c.min-kind.result w c.key_at-k.ensures c.step-how.ensures
    (omega arith) (omega (arith, c.min-kind.ensures)) (omega (arith, c.min-kind.ensures))

pub returns : goal.returns
returns c =
    let l = c.loop-i in
    let a = c.args in
    seen_all a.file a.s.now a.order.now l.was l.last l.kind l.i c.requires.1 l.invariant c.loop-i-test.false
