-- `rules::carrier_rule` meets its contract: the dates, and what is given of code, type and from-date in turn.
use mathlib.Core.Path.{◌≡◌, sym, ap, ◌∙◌}
use mathlib.Core.Bool.{not, true, false}
use native.Mathlib.Omega.{arith}
use Rattle.file.specs.Files.{fields_of, field_counts}
use Rattle.rules.proofs.KindLaws.{text_at}
use Rattle.field.specs.Rules.{carrier_rule}
use Rattle.field.specs.Values.{given}
use Rattle.rules.proofs.carrier_rule.Goals.{then-has_code, else-has_code}
use Rattle.rules.proofs.carrier_rule.Goals as goal

pub returns-then-not-is_empty : goal.returns-then-not-is_empty
unfolding carrier_rule fields_of field_counts
returns-then-not-is_empty c =
    let k = c.requires in
    rw
    (text_at k 11 (omega arith) c.part-from.ensures, text_at k 12 (omega arith) c.part.ensures, sym c.closes_in_order.ensures ∙ c.if-closes_in_order.true, ← c.has_code.ensures)
    (elim c.if-has_code.branch [
      | then-has_code w ↦ rw (w.if-has_code.true) c.if-not-is_empty.true
      | else-has_code w ↦
          let g : given w.part-else-has_code.result.now ≡ true = ap not (sym w.is_empty.ensures) ∙ sym w.value-is ∙ c.if-not-is_empty.true in
          rw (w.if-has_code.false, text_at k 9 (omega arith) w.part-else-has_code.ensures, g) c.if-not-is_empty.true
    ])

pub returns-else-not-is_empty : goal.returns-else-not-is_empty
unfolding carrier_rule fields_of field_counts
returns-else-not-is_empty c =
    let k = c.requires in
    rw
    (text_at k 11 (omega arith) c.part-from.ensures, text_at k 12 (omega arith) c.part.ensures, sym c.closes_in_order.ensures ∙ c.if-closes_in_order.true, ← c.has_code.ensures)
    (elim c.if-has_code.branch [
      | then-has_code w ↦ cc
      | else-has_code w ↦
          let g : given w.part-else-has_code.result.now ≡ false = ap not (sym w.is_empty.ensures) ∙ sym w.value-is ∙ c.if-not-is_empty.false in
          rw (w.if-has_code.false, text_at k 9 (omega arith) w.part-else-has_code.ensures, g) (ap not c.is_empty-else-not-is_empty.ensures)
    ])

pub returns-else-closes_in_order : goal.returns-else-closes_in_order
unfolding carrier_rule fields_of field_counts
returns-else-closes_in_order c =
    let k = c.requires in
    rw
    (text_at k 11 (omega arith) c.part-from.ensures, text_at k 12 (omega arith) c.part.ensures, sym c.closes_in_order.ensures ∙ c.if-closes_in_order.false)
    c.if-closes_in_order.false
