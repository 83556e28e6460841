-- `codes::weeks_allow` meets its contract: each type of 5 to 8 has to allow the day.
use mathlib.Core.Path.{◌≡◌, refl, sym, ◌∙◌}
use Rattle.laws.specs.Tests.{both}
use Rattle.trip.specs.Days.{week_allows, week_allows_in, weeks_allow}
use Rattle.codes.proofs.LeafLaws.{both_first, week_alone, asks_period}
use Rattle.codes.proofs.weeks_allow.Goals as goal
use Rattle.codes.proofs.weeks_allow.Goals.{then-type_allows, else-type_allows, then-type_allows-2, else-type_allows-2}

pub returns-then-type_allows-3 : goal.returns-then-type_allows-3
unfolding weeks_allow week_allows_in
returns-then-type_allows-3 c codes s h =
    let first : c.if-type_allows.value ≡ both (week_allows 5 c.args.d codes) (week_allows 6 c.args.d codes) =
    elim c.if-type_allows.branch [
      | then-type_allows w ↦
          rw (sym (c.type_allows.ensures ∙ week_alone s 5 _ refl) ∙ w.if-type_allows.true)
          (w.value-is ∙ w.type_allows-then-type_allows.ensures ∙ week_alone s 6 _ refl)
      | else-type_allows w ↦
          rw (sym (c.type_allows.ensures ∙ week_alone s 5 _ refl) ∙ w.if-type_allows.false) (w.value-is ∙ w.if-type_allows.false)
    ] in
    let three : c.if-type_allows-2.value ≡ both (both (week_allows 5 c.args.d codes) (week_allows 6 c.args.d codes)) (week_allows_in 7 c.args.d codes) =
    elim c.if-type_allows-2.branch [
      | then-type_allows-2 w ↦
          rw (sym first ∙ w.if-type_allows-2.true) (w.value-is ∙ w.type_allows-then-type_allows-2.ensures ∙ asks_period s h 7 refl)
      | else-type_allows-2 w ↦ rw (sym first ∙ w.if-type_allows-2.false) (w.value-is ∙ w.if-type_allows-2.false)
    ] in
    rw (both_first, both_first, sym three ∙ c.if-type_allows-3.true) (c.type_allows-then-type_allows-3.ensures ∙ asks_period s h 8 refl)

pub returns-else-type_allows-3 : goal.returns-else-type_allows-3
unfolding weeks_allow week_allows_in
returns-else-type_allows-3 c codes s h =
    let first : c.if-type_allows.value ≡ both (week_allows 5 c.args.d codes) (week_allows 6 c.args.d codes) =
    elim c.if-type_allows.branch [
      | then-type_allows w ↦
          rw (sym (c.type_allows.ensures ∙ week_alone s 5 _ refl) ∙ w.if-type_allows.true)
          (w.value-is ∙ w.type_allows-then-type_allows.ensures ∙ week_alone s 6 _ refl)
      | else-type_allows w ↦
          rw (sym (c.type_allows.ensures ∙ week_alone s 5 _ refl) ∙ w.if-type_allows.false) (w.value-is ∙ w.if-type_allows.false)
    ] in
    let three : c.if-type_allows-2.value ≡ both (both (week_allows 5 c.args.d codes) (week_allows 6 c.args.d codes)) (week_allows_in 7 c.args.d codes) =
    elim c.if-type_allows-2.branch [
      | then-type_allows-2 w ↦
          rw (sym first ∙ w.if-type_allows-2.true) (w.value-is ∙ w.type_allows-then-type_allows-2.ensures ∙ asks_period s h 7 refl)
      | else-type_allows-2 w ↦ rw (sym first ∙ w.if-type_allows-2.false) (w.value-is ∙ w.if-type_allows-2.false)
    ] in
    rw (both_first, both_first, sym three ∙ c.if-type_allows-3.false, c.if-type_allows-3.false)
