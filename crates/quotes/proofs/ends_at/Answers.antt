-- `quotes::ends_at` meets its contract: what ends a field is seen from the byte and the next.
use mathlib.Core.Path.{sym, ◌∙◌}
use borrow.Author.Tests.{eqb-true, ltb-true, ltb-false}
use Rattle.file.proofs.TextLaws.{ends_no_quote, ends_no_next, ends_followed, ends_unfollowed}
use Rattle.quotes.proofs.ends_at.Goals as goal
use Rattle.quotes.proofs.ends_at.Goals.{then-s-at-eq34, else-s-at-eq34}

pub returns-in-44 : goal.returns-in-44
returns-in-44 c =
    elim c.if-s-at-eq34.branch [
      | then-s-at-eq34 w ↦ sym (ends_followed _ _ c.requires w.if-s-at-eq34.true (ltb-true _ _ (sym w.value-is ∙ c.if-at-s.true)) c.in-44.is)
      | else-s-at-eq34 w ↦ absurd (w.if-s-at-eq34.false (eqb-true _ _ (sym w.value-is ∙ c.if-at-s.true)))
    ]

pub returns-in_default : goal.returns-in_default
returns-in_default c =
    elim c.if-s-at-eq34.branch [
      | then-s-at-eq34 w ↦
          sym (ends_unfollowed _ _ c.requires w.if-s-at-eq34.true (ltb-true _ _ (sym w.value-is ∙ c.if-at-s.true)) c.in_default.in_default-own.rest.1)
      | else-s-at-eq34 w ↦ absurd (w.if-s-at-eq34.false (eqb-true _ _ (sym w.value-is ∙ c.if-at-s.true)))
    ]

pub returns-else-at-s : goal.returns-else-at-s
returns-else-at-s c =
    c.if-at-s.false ∙ elim c.if-s-at-eq34.branch [
      | then-s-at-eq34 w ↦ sym (ends_no_next _ _ c.requires (ltb-false _ _ (sym w.value-is ∙ c.if-at-s.false)))
      | else-s-at-eq34 w ↦ sym (ends_no_quote _ _ c.requires w.if-s-at-eq34.false)
    ]
