-- `codes::days_fit` meets its contract: no test that refuses the trip holds.
use mathlib.Core.Bool.{Bool, true, false, not}
use mathlib.Core.Path.{◌≡◌, refl, sym, ap, ◌∙◌}
use borrow.Author.Tests.{eq-eqb, ne_eqb}
use Rattle.laws.specs.Tests.{both, one_of}
use Rattle.trip.specs.Days.{two_marks, two_weeks, one_with_weeks, days_fit, three_with_other}
use Rattle.codes.proofs.LeafLaws.{lacks_type, has_type_lem}
use Rattle.codes.proofs.days_fit.Goals as goal
use Rattle.codes.proofs.days_fit.Goals.{then-not-differ, else-not-differ, then-not-two_weeks, else-not-two_weeks}

-- of four that would refuse it none does: the first three don't, and the fourth doesn't
fit_in_turn : (a b c d : Bool) → not (one_of a (one_of b (one_of c d))) ≡ both (both (both (not a) (not b)) (not c)) (not d)
fit_in_turn true b c d = refl
fit_in_turn false true c d = refl
fit_in_turn false false true d = refl
fit_in_turn false false false d = refl

pub returns-then-seen-eq0 : goal.returns-then-seen-eq0
unfolding days_fit three_with_other
returns-then-seen-eq0 c day codes s e h =
    let marks : c.if-not-differ.value ≡ both (not (two_marks codes)) (not (two_weeks codes)) =
    elim c.if-not-differ.branch [
      | then-not-differ w ↦ rw (sym e ∙ w.if-not-differ.true) (w.value-is ∙ ap not (w.two_weeks.ensures codes s))
      | else-not-differ w ↦ rw (sym e ∙ w.if-not-differ.false) (w.value-is ∙ ap not w.if-not-differ.false)
    ] in
    let plain : c.if-not-two_weeks.value ≡ both (both (not (two_marks codes)) (not (two_weeks codes))) (not (one_with_weeks codes)) =
    elim c.if-not-two_weeks.branch [
      | then-not-two_weeks w ↦ rw (sym marks ∙ w.if-not-two_weeks.true) (w.value-is ∙ ap not (w.one_with_weeks.ensures codes s))
      | else-not-two_weeks w ↦ rw (sym marks ∙ w.if-not-two_weeks.false) (w.value-is ∙ w.if-not-two_weeks.false)
    ] in
    rw (fit_in_turn (two_marks codes) (two_weeks codes) (one_with_weeks codes) (three_with_other day codes), sym plain ∙ c.if-not-one_with_weeks.true, lacks_type s 3 refl c.if-seen-eq0.true, eq-eqb _ 0 c.if-seen-eq0.true)

pub returns-then-not-beside_three : goal.returns-then-not-beside_three
unfolding days_fit three_with_other
returns-then-not-beside_three c day codes s e h =
    let marks : c.if-not-differ.value ≡ both (not (two_marks codes)) (not (two_weeks codes)) =
    elim c.if-not-differ.branch [
      | then-not-differ w ↦ rw (sym e ∙ w.if-not-differ.true) (w.value-is ∙ ap not (w.two_weeks.ensures codes s))
      | else-not-differ w ↦ rw (sym e ∙ w.if-not-differ.false) (w.value-is ∙ ap not w.if-not-differ.false)
    ] in
    let plain : c.if-not-two_weeks.value ≡ both (both (not (two_marks codes)) (not (two_weeks codes))) (not (one_with_weeks codes)) =
    elim c.if-not-two_weeks.branch [
      | then-not-two_weeks w ↦ rw (sym marks ∙ w.if-not-two_weeks.true) (w.value-is ∙ ap not (w.one_with_weeks.ensures codes s))
      | else-not-two_weeks w ↦ rw (sym marks ∙ w.if-not-two_weeks.false) (w.value-is ∙ w.if-not-two_weeks.false)
    ] in
    rw (fit_in_turn (two_marks codes) (two_weeks codes) (one_with_weeks codes) (three_with_other day codes), sym plain ∙ c.if-not-one_with_weeks.true, has_type_lem s 3 refl c.if-seen-eq0.false, sym (c.beside_three.ensures codes s) ∙ c.if-not-beside_three.true, h)

pub returns-else-not-beside_three : goal.returns-else-not-beside_three
unfolding days_fit three_with_other
returns-else-not-beside_three c day codes s e h =
    let marks : c.if-not-differ.value ≡ both (not (two_marks codes)) (not (two_weeks codes)) =
    elim c.if-not-differ.branch [
      | then-not-differ w ↦ rw (sym e ∙ w.if-not-differ.true) (w.value-is ∙ ap not (w.two_weeks.ensures codes s))
      | else-not-differ w ↦ rw (sym e ∙ w.if-not-differ.false) (w.value-is ∙ ap not w.if-not-differ.false)
    ] in
    let plain : c.if-not-two_weeks.value ≡ both (both (not (two_marks codes)) (not (two_weeks codes))) (not (one_with_weeks codes)) =
    elim c.if-not-two_weeks.branch [
      | then-not-two_weeks w ↦ rw (sym marks ∙ w.if-not-two_weeks.true) (w.value-is ∙ ap not (w.one_with_weeks.ensures codes s))
      | else-not-two_weeks w ↦ rw (sym marks ∙ w.if-not-two_weeks.false) (w.value-is ∙ w.if-not-two_weeks.false)
    ] in
    rw (fit_in_turn (two_marks codes) (two_weeks codes) (one_with_weeks codes) (three_with_other day codes), sym plain ∙ c.if-not-one_with_weeks.true, has_type_lem s 3 refl c.if-seen-eq0.false, sym (c.beside_three.ensures codes s) ∙ c.if-not-beside_three.false, c.if-not-beside_three.false)

pub returns-else-not-one_with_weeks : goal.returns-else-not-one_with_weeks
unfolding days_fit three_with_other
returns-else-not-one_with_weeks c day codes s e h =
    let marks : c.if-not-differ.value ≡ both (not (two_marks codes)) (not (two_weeks codes)) =
    elim c.if-not-differ.branch [
      | then-not-differ w ↦ rw (sym e ∙ w.if-not-differ.true) (w.value-is ∙ ap not (w.two_weeks.ensures codes s))
      | else-not-differ w ↦ rw (sym e ∙ w.if-not-differ.false) (w.value-is ∙ ap not w.if-not-differ.false)
    ] in
    let plain : c.if-not-two_weeks.value ≡ both (both (not (two_marks codes)) (not (two_weeks codes))) (not (one_with_weeks codes)) =
    elim c.if-not-two_weeks.branch [
      | then-not-two_weeks w ↦ rw (sym marks ∙ w.if-not-two_weeks.true) (w.value-is ∙ ap not (w.one_with_weeks.ensures codes s))
      | else-not-two_weeks w ↦ rw (sym marks ∙ w.if-not-two_weeks.false) (w.value-is ∙ w.if-not-two_weeks.false)
    ] in
    rw (fit_in_turn (two_marks codes) (two_weeks codes) (one_with_weeks codes) (three_with_other day codes), sym plain ∙ c.if-not-one_with_weeks.false, c.if-not-one_with_weeks.false)
