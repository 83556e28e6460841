-- `codes::holds_day` meets its contract: a date that is given is read, and a period with no to-date is one day.
use mathlib.Core.Path.{refl, sym}
use native.Mathlib.Omega.{arith}
use borrow.Author.Tests.{eqb-false}
use Rattle.periods.specs.Periods.{period_holds}
use Rattle.file.specs.Files.{fields_of, field_counts}
use Rattle.field.specs.Kinds.{kind_of, kinds, caskody}
use Rattle.rules.proofs.KindLaws.{text_at, maybe_date}
use Rattle.dated.proofs.RuleLaws.{is_given}
use Rattle.trip.specs.Days.{holds_day}
use Rattle.codes.proofs.holds_day.Goals as goal

pub part-from-requires : goal.part-from-requires
unfolding fields_of field_counts
part-from-requires c = c.requires.parted 5 (omega arith)

pub returns-then-is_empty : goal.returns-then-is_empty
unfolding fields_of field_counts holds_day
returns-then-is_empty c =
    let k = c.requires in
    rw (text_at k 5 (omega arith) c.part-from.ensures, sym c.if-is_empty.ensures)

pub part-to-requires : goal.part-to-requires
unfolding fields_of field_counts
part-to-requires c = c.requires.parted 6 (omega arith)

pub day_of-requires : goal.day_of-requires
unfolding fields_of field_counts kind_of kinds caskody
day_of-requires c =
    is_given _ (maybe_date c.requires 5 (omega arith) c.part-from.ensures refl) (eqb-false _ _ (sym c.if-is_empty.ensures))

pub returns-then-is_empty-2 : goal.returns-then-is_empty-2
unfolding fields_of field_counts holds_day period_holds
returns-then-is_empty-2 c =
    let k = c.requires in
    rw
    (text_at k 5 (omega arith) c.part-from.ensures, sym c.if-is_empty.ensures, text_at k 6 (omega arith) c.part-to.ensures, sym c.if-is_empty-2.ensures, ← c.day_of.ensures)
    c.period_holds.ensures

pub day_of-requires-2 : goal.day_of-requires-2
unfolding fields_of field_counts kind_of kinds caskody
day_of-requires-2 c =
    is_given _ (maybe_date c.requires 5 (omega arith) c.part-from.ensures refl) (eqb-false _ _ (sym c.if-is_empty.ensures))

pub day_of-requires-3 : goal.day_of-requires-3
unfolding fields_of field_counts kind_of kinds caskody
day_of-requires-3 c =
    is_given _ (maybe_date c.requires 6 (omega arith) c.part-to.ensures refl) (eqb-false _ _ (sym c.if-is_empty-2.ensures))

pub returns : goal.returns
unfolding fields_of field_counts holds_day
returns c =
    let k = c.requires in
    rw
    (text_at k 5 (omega arith) c.part-from.ensures, sym c.if-is_empty.ensures, text_at k 6 (omega arith) c.part-to.ensures, sym c.if-is_empty-2.ensures, ← c.day_of-2.ensures, ← c.day_of-3.ensures)
    c.period_holds-2.ensures
