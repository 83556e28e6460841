-- `fields::first_unkind` meets its contract. The loop's invariant: the first field from i on that isn't of its kind is the first of all.
use mathlib.Core.Path.{sym, ap, ◌∙◌}
use Prim.Native.Nat.{◌+◌}
use native.Mathlib.Omega.{arith}
use Rattle.walk.proofs.WalkLaws.{cut_left, cut_end}
use Rattle.field.specs.Kinds.{admits}
use Rattle.field.specs.declared.Kind.{Kind}
use Rattle.fields.proofs.StageLaws.{unkind_turn, unkind_hit, unkind_done}
use Rattle.fields.proofs.first_unkind.Goals as goal

pub returns-then-not-admits_text : goal.returns-then-not-admits_text
returns-then-not-admits_text c =
    let l = c.loop-i in
    let a = c.args in
    let text = c.part.result.now in
    let e = cut_left a.n a.row.bytes.now a.row.places.now l.i c.loop-i-test.true _ c.part.ensures in
    let h = ap (λ (k : Kind). admits k text) (sym c.kind_of.ensures) ∙ sym c.admits_text.ensures ∙ c.if-not-admits_text.true in
    sym (unkind_hit a.file (l.i + 1) _ _ _ e h) ∙ l.invariant

pub loop-i-preserved : goal.loop-i-preserved
loop-i-preserved c =
    let l = c.loop-i in
    let a = c.args in
    let text = c.part.result.now in
    let e = cut_left a.n a.row.bytes.now a.row.places.now l.i c.loop-i-test.true _ c.part.ensures in
    let h = ap (λ (k : Kind). admits k text) (sym c.kind_of.ensures) ∙ sym c.admits_text.ensures ∙ c.if-not-admits_text.false in
    sym (unkind_turn a.file (l.i + 1) _ _ _ e h) ∙ l.invariant

pub returns : goal.returns
returns c =
    let l = c.loop-i in
    let a = c.args in
    sym (unkind_done a.file (l.i + 1) _ (cut_end a.n a.row.bytes.now a.row.places.now l.i (omega arith))) ∙ l.invariant
