-- `tripruns::valid_at` meets its contract: the record that is cut is the one at the place, and its ninth and tenth fields are dates.
use mathlib.Core.Path.{refl}
use native.Mathlib.Omega.{arith}
use borrow.Author.Tests.{lt-leb, le-leb}
use Rattle.file.specs.Files.{fields_of, field_counts}
use Rattle.coded.proofs.LeftLaws.{left_here, left_kinded}
use Rattle.tripruns.proofs.RunsLaws.{from_date, to_date, valid_within}
use Rattle.tripruns.proofs.valid_at.Goals as goal

pub cut-requires : goal.cut-requires
unfolding fields_of field_counts
cut-requires c =
    left_here 5 _ _ _ c.requires.0 _ c.requires.1 c.requires.2

pub part-requires : goal.part-requires
part-requires c = c.cut.ensures.parted 8 (omega arith)

pub day_of-requires : goal.day_of-requires
unfolding fields_of field_counts
day_of-requires c =
    from_date (left_kinded 5 _ _ _ c.requires.0 _ c.requires.1 c.requires.2 c.cut.ensures) c.part.ensures

pub returns-else-day_of-d : goal.returns-else-day_of-d
unfolding fields_of field_counts
returns-else-day_of-d c =
    let k = left_kinded 5 _ _ _ c.requires.0 _ c.requires.1 c.requires.2 c.cut.ensures in
    rw
    (valid_within c.args.f5.now c.args.at c.cut.ensures k c.part.ensures refl c.args.d, ← c.day_of.ensures, lt-leb c.day_of.result c.args.d c.if-day_of-d.false)

pub part-requires-then-day_of-d : goal.part-requires-then-day_of-d
part-requires-then-day_of-d c = c.cut.ensures.parted 9 (omega arith)

pub day_of-requires-then-day_of-d : goal.day_of-requires-then-day_of-d
unfolding fields_of field_counts
day_of-requires-then-day_of-d c =
    to_date (left_kinded 5 _ _ _ c.requires.0 _ c.requires.1 c.requires.2 c.cut.ensures) c.part-then-day_of-d.ensures

pub returns-then-day_of-d : goal.returns-then-day_of-d
unfolding fields_of field_counts
returns-then-day_of-d c =
    let k = left_kinded 5 _ _ _ c.requires.0 _ c.requires.1 c.requires.2 c.cut.ensures in
    rw
    (valid_within c.args.f5.now c.args.at c.cut.ensures k c.part.ensures c.part-then-day_of-d.ensures c.args.d, ← c.day_of.ensures, ← c.day_of-then-day_of-d.ensures, le-leb c.day_of.result c.args.d c.if-day_of-d.true)
