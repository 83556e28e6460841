-- `marks::is_bare` meets its contract: the two texts of the codes are fields 6 and 7.
use mathlib.Core.Path.{sym}
use native.Mathlib.Omega.{arith}
use Rattle.file.specs.Files.{fields_of, field_counts}
use Rattle.rules.proofs.KindLaws.{text_at}
use Rattle.marks.proofs.is_bare.Goals as goal

pub part-requires : goal.part-requires
unfolding fields_of field_counts
part-requires c = c.requires.parted 5 (omega arith)

pub part-requires-then-is_empty : goal.part-requires-then-is_empty
unfolding fields_of field_counts
part-requires-then-is_empty c = c.requires.parted 6 (omega arith)

pub returns-then-is_empty : goal.returns-then-is_empty
unfolding fields_of field_counts
returns-then-is_empty c =
    rw (text_at c.requires 5 (omega arith) c.part.ensures, text_at c.requires 6 (omega arith) c.part-then-is_empty.ensures, sym c.if-is_empty.ensures) c.is_empty-then-is_empty.ensures

pub returns-else-is_empty : goal.returns-else-is_empty
unfolding fields_of field_counts
returns-else-is_empty c =
    rw (text_at c.requires 5 (omega arith) c.part.ensures, sym c.if-is_empty.ensures) c.if-is_empty.false
