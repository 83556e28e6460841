-- `codes::codes_allow` meets its contract: type 3 decides alone, then 4, then 2, and then all others have to allow the day.
use mathlib.Core.Path.{◌≡◌, refl, sym, ◌∙◌}
use borrow.Author.Tests.{eq-eqb, ne_eqb}
use Rattle.periods.specs.Periods.{parity_fits}
use Rattle.laws.specs.Tests.{both}
use Rattle.field.specs.Rules.{asks}
use Rattle.trip.specs.Days.{has_type, holds, signs_allow, codes_allow, all_allow}
use Rattle.codes.proofs.LeafLaws.{both_first, has_one, has_no_one, holds_one, asks_period}
use Rattle.codes.proofs.codes_allow.Goals as goal
use Rattle.codes.proofs.codes_allow.Goals.{then-allowed, else-allowed}

pub returns-then-seen-eq1 : goal.returns-then-seen-eq1
unfolding codes_allow
returns-then-seen-eq1 c day holidays codes s h a = rw (has_one s 3 refl c.if-seen-eq1.true) (holds_one s h 3 refl)

pub returns-then-held-eq1 : goal.returns-then-held-eq1
unfolding codes_allow
returns-then-held-eq1 c day holidays codes s h a =
    rw (has_no_one s 3 refl c.if-seen-eq1.false, sym (holds_one s h 4 refl) ∙ eq-eqb _ _ c.if-held-eq1.true)

pub returns-then-held-eq1-2 : goal.returns-then-held-eq1-2
unfolding codes_allow
returns-then-held-eq1-2 c day holidays codes s h a =
    rw
    (has_no_one s 3 refl c.if-seen-eq1.false, sym (holds_one s h 4 refl) ∙ ne_eqb _ _ c.if-held-eq1.false, holds_one s h 2 refl, sym (holds_one s h 2 refl) ∙ eq-eqb _ _ c.if-held-eq1-2.true)

pub returns-then-type_allows : goal.returns-then-type_allows
unfolding codes_allow all_allow parity_fits
returns-then-type_allows c day holidays codes s h a =
    let others : c.if-allowed.value ≡ both (signs_allow day c.args.d holidays) (asks (has_type 1 codes) (holds 1 c.args.d codes)) =
    elim c.if-allowed.branch [
      | then-allowed w ↦ rw (sym a ∙ w.if-allowed.true) (w.value-is ∙ w.type_allows.ensures ∙ asks_period s h 1 refl)
      | else-allowed w ↦ rw (sym a ∙ w.if-allowed.false) (w.value-is ∙ w.if-allowed.false)
    ] in
    rw
    (has_no_one s 3 refl c.if-seen-eq1.false, sym (holds_one s h 4 refl) ∙ ne_eqb _ _ c.if-held-eq1.false, sym (holds_one s h 2 refl) ∙ ne_eqb _ _ c.if-held-eq1-2.false, both_first, sym others ∙ c.if-type_allows.true)
    (c.weeks_allow.ensures codes s h)

pub returns-else-type_allows : goal.returns-else-type_allows
unfolding codes_allow all_allow parity_fits
returns-else-type_allows c day holidays codes s h a =
    let others : c.if-allowed.value ≡ both (signs_allow day c.args.d holidays) (asks (has_type 1 codes) (holds 1 c.args.d codes)) =
    elim c.if-allowed.branch [
      | then-allowed w ↦ rw (sym a ∙ w.if-allowed.true) (w.value-is ∙ w.type_allows.ensures ∙ asks_period s h 1 refl)
      | else-allowed w ↦ rw (sym a ∙ w.if-allowed.false) (w.value-is ∙ w.if-allowed.false)
    ] in
    rw
    (has_no_one s 3 refl c.if-seen-eq1.false, sym (holds_one s h 4 refl) ∙ ne_eqb _ _ c.if-held-eq1.false, sym (holds_one s h 2 refl) ∙ ne_eqb _ _ c.if-held-eq1-2.false, both_first, sym others ∙ c.if-type_allows.false, c.if-type_allows.false)
