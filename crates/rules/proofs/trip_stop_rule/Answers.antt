-- `rules::trip_stop_rule` meets its contract: the texts that are asked are the record's kilometres, arrival and departure.
use mathlib.Core.Path.{sym, ◌∙◌}
use native.Mathlib.Omega.{arith}
use Rattle.file.specs.Files.{fields_of, field_counts}
use Rattle.rules.proofs.KindLaws.{text_at}
use Rattle.field.specs.Rules.{trip_stop_rule}
use Rattle.rules.proofs.trip_stop_rule.Goals as goal

pub returns-then-times_fit : goal.returns-then-times_fit
unfolding trip_stop_rule fields_of field_counts
returns-then-times_fit c =
    let k = c.requires in
    rw
    (text_at k 8 (omega arith) c.part-arrival.ensures, text_at k 9 (omega arith) c.part-departure.ensures, sym c.times_fit.ensures ∙ c.if-times_fit.true, text_at k 7 (omega arith) c.part.ensures)
    c.kilometres_fit.ensures

pub returns-else-times_fit : goal.returns-else-times_fit
unfolding trip_stop_rule fields_of field_counts
returns-else-times_fit c =
    let k = c.requires in
    rw
    (text_at k 8 (omega arith) c.part-arrival.ensures, text_at k 9 (omega arith) c.part-departure.ensures, sym c.times_fit.ensures ∙ c.if-times_fit.false)
    c.if-times_fit.false
