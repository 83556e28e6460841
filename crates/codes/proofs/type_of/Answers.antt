-- `codes::type_of` meets its contract: the field is of a type's kind, so a text that is given is one byte, `1` to `8`.
use mathlib.Core.Path.{sym, ◌∙◌}
use native.Mathlib.Omega.{arith}
use borrow.Author.Tests.{eqb-true, eqb-false}
use Rattle.file.specs.Files.{fields_of, field_counts}
use Rattle.field.specs.Kinds.{kind_of, kinds, caskody}
use Rattle.rules.proofs.KindLaws.{text_at, text_kind}
use Rattle.trip.specs.Days.{type_of}
use Rattle.codes.proofs.LeafLaws.{no_type, type_byte, first_byte_lem}
use Rattle.codes.proofs.type_of.Goals as goal

pub part-t-requires : goal.part-t-requires
unfolding fields_of field_counts
part-t-requires c = c.requires.parted 4 (omega arith)

pub returns-then-is_empty : goal.returns-then-is_empty
unfolding fields_of field_counts type_of
returns-then-is_empty c =
    let k = c.requires in
    (rw (text_at k 4 (omega arith) c.part-t.ensures) (no_type _ (eqb-true _ _ (sym c.if-is_empty.ensures))), omega arith)

pub overflow_sub-t : goal.overflow_sub-t
unfolding fields_of field_counts kind_of kinds caskody
overflow_sub-t c =
    let k = c.requires in
    let b = type_byte _ (text_kind k 4 (omega arith) c.part-t.ensures) (eqb-false _ _ (sym c.if-is_empty.ensures)) in
    omega (arith, b.0, b.1)

pub returns : goal.returns
unfolding fields_of field_counts kind_of kinds caskody type_of
returns c =
    let k = c.requires in
    let b = type_byte _ (text_kind k 4 (omega arith) c.part-t.ensures) (eqb-false _ _ (sym c.if-is_empty.ensures)) in
    (c.from.ensures ∙ rw (text_at k 4 (omega arith) c.part-t.ensures, ← first_byte_lem), omega (arith, c.from.ensures, b.0, b.1))
