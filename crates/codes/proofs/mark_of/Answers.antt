-- `codes::mark_of` meets its contract: the mark of a time code that has a type is two digits.
use native.Mathlib.Omega.{arith}
use Rattle.file.specs.Files.{fields_of, field_counts}
use Rattle.rules.proofs.KindLaws.{text_at}
use Rattle.codes.proofs.LeafLaws.{typed_mark}
use Rattle.codes.proofs.mark_of.Goals as goal

pub part-requires : goal.part-requires
unfolding fields_of field_counts
part-requires c = c.requires.0.parted 3 (omega arith)

pub value_of-requires : goal.value_of-requires
unfolding fields_of field_counts
value_of-requires c =
    let p = c.requires in
    let d = rw (text_at p.0 3 (omega arith) c.part.ensures) at (typed_mark _ p.1 p.2) in
    (d.digits, omega (arith, d.most))

pub returns : goal.returns
unfolding fields_of field_counts
returns c = rw (text_at c.requires.0 3 (omega arith) c.part.ensures) c.value_of.ensures
