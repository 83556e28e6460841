-- `quotes::text_close` meets its contract. The loop's invariant: the text from `at` on stops where the text from `i` on stops, and no
-- plain byte stands at `i`.
use mathlib.Core.Path.{sym, ◌∙◌}
use native.Mathlib.Omega.{arith}
use Rattle.file.proofs.TextLaws.{from_skip, from_end, from_unfit, from_ends, from_quote, closes_unfit, closes_ends, ends_no_quote, ends_within, ends_past}
use Rattle.quotes.proofs.text_close.Goals as goal

pub loop-i-init : goal.loop-i-init
loop-i-init c = from_skip _ _ _ c.plain_end-i.ensures

pub returns-then-s-i-ne34 : goal.returns-then-s-i-ne34
returns-then-s-i-ne34 c =
    let a = c.args in
    let i = c.loop-i.i in
    let e = from_unfit a.s.now a.at i c.loop-i.invariant (omega arith) c.if-s-i-ne34.true in
    record { place = closes_unfit a.s.now a.at i e (ends_no_quote a.s.now i (omega arith) c.if-s-i-ne34.true); near = c.loop-i.invariant.near }

pub returns-then-ends_at : goal.returns-then-ends_at
returns-then-ends_at c =
    let a = c.args in
    let i = c.loop-i.i in
    let h = sym c.ends_at.ensures ∙ c.if-ends_at.true in
    let e = from_ends a.s.now a.at i c.loop-i.invariant (omega arith) h in
    record { place = closes_ends a.s.now a.at i e h; near = omega (arith, ends_within a.s.now i h) }

pub loop-i-smaller : goal.loop-i-smaller
loop-i-smaller c = omega (arith, c.plain_end-i-in-loop-i.ensures.place, c.plain_end-i-in-loop-i.ensures.near)

pub loop-i-preserved : goal.loop-i-preserved
loop-i-preserved c =
    let a = c.args in
    let h = sym c.ends_at.ensures ∙ c.if-ends_at.false in
    from_quote a.s.now a.at c.loop-i.i c.loop-i.invariant (omega arith) c.if-s-i-ne34.false h c.plain_end-i-in-loop-i.result c.plain_end-i-in-loop-i.ensures

pub returns : goal.returns
returns c =
    let a = c.args in
    let i = c.loop-i.i in
    let e = from_end a.s.now a.at i c.loop-i.invariant c.loop-i-test.false in
    record { place = closes_unfit a.s.now a.at i e (ends_past a.s.now i c.loop-i-test.false); near = c.loop-i.invariant.near }
