-- `rules::line_rule` meets its contract: the four dates are the record's.
use mathlib.Core.Path.{sym, ◌∙◌}
use native.Mathlib.Omega.{arith}
use Rattle.file.specs.Files.{fields_of, field_counts}
use Rattle.rules.proofs.KindLaws.{text_at}
use Rattle.field.specs.Rules.{line_rule}
use Rattle.rules.proofs.line_rule.Goals as goal

pub returns-then-in_order : goal.returns-then-in_order
unfolding line_rule fields_of field_counts
returns-then-in_order c =
    let k = c.requires in
    rw
    (text_at k 6 (omega arith) c.part.ensures, text_at k 7 (omega arith) c.part-2.ensures, sym c.in_order.ensures ∙ c.if-in_order.true, text_at k 8 (omega arith) c.part-then-in_order.ensures, text_at k 9 (omega arith) c.part-then-in_order-2.ensures)
    c.in_order-then-in_order.ensures

pub returns-else-in_order : goal.returns-else-in_order
unfolding line_rule fields_of field_counts
returns-else-in_order c =
    let k = c.requires in
    rw
    (text_at k 6 (omega arith) c.part.ensures, text_at k 7 (omega arith) c.part-2.ensures, sym c.in_order.ensures ∙ c.if-in_order.false)
    c.if-in_order.false
