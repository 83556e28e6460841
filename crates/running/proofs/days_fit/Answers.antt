-- `running::days_fit` meets its contract: the pass leaves which types there are, and where there is no type 3 the signs aren't asked.
use mathlib.Core.Bool.{not}
use mathlib.Core.Path.{ap, ◌∙◌}
use mathlib.Core.List.{[]}
use borrow.Author.Tests.{eq-eqb}
use Rattle.codes.proofs.SeenLaws.{marks_are}
use Rattle.timecodes.proofs.TimeCodeLaws.{codes_meet}
use Rattle.daysigns.proofs.SignLaws.{no_day_sign}
use Rattle.running.proofs.RunningLaws.{left_flags, left_seen, signs_free}
use Rattle.running.proofs.days_fit.Goals as goal
use Rattle.running.proofs.days_fit.Goals.{then-seen-ne0, else-seen-ne0}

pub days_fit-requires : goal.days_fit-requires
days_fit-requires c = left_flags _ _ c.types_of-m.ensures.0

pub returns : goal.returns
returns c =
    let e = c.types_of-m.ensures in
    let seen = left_seen _ _ e.0 in
    let marks = e.1 ∙ marks_are _ (codes_meet _ _ _ c.requires.4 _ _) in
    elim c.if-seen-ne0.branch [
      | then-seen-ne0 w ↦ (c.days_fit.ensures _ _ seen marks (w.dated-is ∙ w.has_day_sign-dated.ensures), e.2)
      | else-seen-ne0 w ↦ (c.days_fit.ensures [] _ seen marks (w.dated-is ∙ ap not (eq-eqb _ 0 w.if-seen-ne0.false) ∙ no_day_sign) ∙ signs_free _ _ e.0 _ w.if-seen-ne0.false, e.2)
    ]
