-- `scanner::last_field` meets its contract: what lies ahead of an opening quote is what follows its text's closing.
use mathlib.Core.Path.{sym, ◌∙◌}
use mathlib.Core.Bool.{true}
use native.Mathlib.Omega.{arith}
use Rattle.file.specs.Reader.{AheadNear}
use Rattle.file.proofs.PassLaws.{at_closed, at_unopened, near_as}
use Rattle.scanner.proofs.last_field.Goals as goal

pub returns-then-not-stands : goal.returns-then-not-stands
unfolding AheadNear
returns-then-not-stands c =
    let a = c.args in
    (sym (at_unopened a.s.now a.at true (sym c.stands.ensures.0 ∙ c.if-not-stands.true)), c.requires)

pub returns : goal.returns
returns c =
    let a = c.args in
    let k = c.text_close-close.ensures in
    let h = sym c.stands.ensures.0 ∙ c.if-not-stands.false in
    let e = c.record_end.ensures in
    (e.0 ∙ sym (at_closed a.s.now a.at true c.text_close-close.result h k.place), near_as a.s.now a.at c.text_close-close.result _ (omega (arith, k.place)) k.near e.1)

pub overflow_add-at : goal.overflow_add-at
overflow_add-at c = omega (arith, c.stands.ensures.1 (c.if-not-stands.false))

pub text_close-close-requires : goal.text_close-close-requires
text_close-close-requires c = omega (arith, c.stands.ensures.1 (c.if-not-stands.false))
