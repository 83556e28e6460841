-- `rules::time_code_rule` meets its contract: the texts that are asked are the record's mark, type and dates.
use mathlib.Core.Path.{sym, ◌∙◌}
use native.Mathlib.Omega.{arith}
use Rattle.file.specs.Files.{fields_of, field_counts}
use Rattle.rules.proofs.KindLaws.{text_at}
use Rattle.field.specs.Rules.{time_code_rule, mark_rule}
use Rattle.rules.proofs.time_code_rule.Goals.{then-closes_in_order, else-closes_in_order}
use Rattle.rules.proofs.time_code_rule.Goals as goal

pub returns-then-mark_fits : goal.returns-then-mark_fits
unfolding time_code_rule mark_rule fields_of field_counts
returns-then-mark_fits c =
    let k = c.requires in
    elim c.if-closes_in_order.branch [
      | then-closes_in_order w ↦
          rw
          (text_at k 5 (omega arith) c.part-from.ensures, text_at k 6 (omega arith) c.part-to.ensures, sym c.closes_in_order.ensures ∙ w.if-closes_in_order.true, text_at k 4 (omega arith) c.part-kind.ensures, text_at k 3 (omega arith) w.part.ensures, sym w.mark_fits.ensures ∙ sym w.value-is ∙ c.if-mark_fits.true)
          c.dates_fit.ensures
      | else-closes_in_order w ↦ cc
    ]

pub returns-else-mark_fits : goal.returns-else-mark_fits
unfolding time_code_rule mark_rule fields_of field_counts
returns-else-mark_fits c =
    let k = c.requires in
    elim c.if-closes_in_order.branch [
      | then-closes_in_order w ↦
          rw
          (text_at k 5 (omega arith) c.part-from.ensures, text_at k 6 (omega arith) c.part-to.ensures, sym c.closes_in_order.ensures ∙ w.if-closes_in_order.true, text_at k 4 (omega arith) c.part-kind.ensures, text_at k 3 (omega arith) w.part.ensures, sym w.mark_fits.ensures ∙ sym w.value-is ∙ c.if-mark_fits.false)
          c.if-mark_fits.false
      | else-closes_in_order w ↦
          rw
          (text_at k 5 (omega arith) c.part-from.ensures, text_at k 6 (omega arith) c.part-to.ensures, sym c.closes_in_order.ensures ∙ w.if-closes_in_order.false)
          c.if-mark_fits.false
    ]
