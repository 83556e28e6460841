-- `quotes::text_end` meets its contract. The loop's invariant: the text from `at` on stops where the text from `i` on stops, and no
-- plain byte stands at `i`.
use mathlib.Core.Path.{sym, ◌∙◌}
use native.Mathlib.Omega.{arith}
use Rattle.file.proofs.TextLaws.{from_skip, from_end, from_unfit, from_ends, from_quote}
use Rattle.quotes.proofs.text_end.Goals as goal
use Rattle.quotes.proofs.text_end.Goals.{then-s-i-ne34-via-then-s-i-ne34, then-s-i-ne34-via-else-s-i-ne34+then-ends_at}

pub loop-i-init : goal.loop-i-init
loop-i-init c = from_skip _ _ _ c.plain_end-i.ensures

pub returns-then-s-i-ne34 : goal.returns-then-s-i-ne34
returns-then-s-i-ne34 c =
    elim c.then-s-i-ne34.branch [
      | then-s-i-ne34-via-then-s-i-ne34 w ↦ record { place = from_unfit c.args.s.now c.args.at c.loop-i.i c.loop-i.invariant (omega arith) w.if-s-i-ne34.true; near = c.loop-i.invariant.near }
      | then-s-i-ne34-via-else-s-i-ne34+then-ends_at w ↦
          record { place = from_ends c.args.s.now c.args.at c.loop-i.i c.loop-i.invariant (omega arith) (sym w.ends_at.ensures ∙ w.if-ends_at.true); near = c.loop-i.invariant.near }
    ]

pub loop-i-smaller : goal.loop-i-smaller
loop-i-smaller c = omega (arith, c.plain_end-i-in-loop-i.ensures.place, c.plain_end-i-in-loop-i.ensures.near)

pub loop-i-preserved : goal.loop-i-preserved
loop-i-preserved c =
    let a = c.args in
    let h = sym c.ends_at.ensures ∙ c.if-ends_at.false in
    from_quote a.s.now a.at c.loop-i.i c.loop-i.invariant (omega arith) c.if-s-i-ne34.false h c.plain_end-i-in-loop-i.result c.plain_end-i-in-loop-i.ensures

pub returns : goal.returns
returns c =
    let a = c.args in
    let i = c.loop-i.i in
    let e = from_end a.s.now a.at i c.loop-i.invariant c.loop-i-test.false in
    record { place = e; near = c.loop-i.invariant.near }
