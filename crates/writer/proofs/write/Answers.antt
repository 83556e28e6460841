-- `writer::write` meets its contract. Each return is one of the four cases of the definition, in its order: no such field, a text
-- that is not permitted, no room, and the field laid at the front of the part that was lent from the place on.
use mathlib.Core.Path.{sym, ◌∙◌}
use Prim.Native.Nat.{◌+◌, ◌<◌}
use native.Mathlib.Omega.{arith}
use lib.Dec.{eqb}
use lib.ListN.{length, length-drop}
use Rattle.laws.specs.Splice.{mid_all}
use Rattle.file.specs.Writing.{field_bytes}
use Rattle.file.specs.Answers.{numbered, numbered_written}
use Rattle.file.proofs.WriterLaws.{beside_most, when_no_field, when_not_permitted, when_no_room, when_laid, field_size, laid_size, part_laid}
use Rattle.writer.proofs.write.Goals as goal
use Rattle.writer.proofs.write.Goals.{then-at-d-via-then-at-d, then-at-d-via-else-at-d+then-size-d}

pub returns-then-not-has_field : goal.returns-then-not-has_field
unfolding numbered_written numbered
returns-then-not-has_field c =
    let a = c.args in
    when_no_field a.file a.field a.text.now a.d.now a.place (sym c.has_field.ensures ∙ c.if-not-has_field.true)

pub returns-then-not-permitted : goal.returns-then-not-permitted
unfolding numbered_written numbered
returns-then-not-permitted c =
    let a = c.args in
    when_not_permitted
    a.file
    a.field
    a.text.now
    a.d.now
    a.place
    (sym c.has_field.ensures ∙ c.if-not-has_field.false)
    (sym c.permitted.ensures ∙ c.if-not-permitted.true)

pub overflow_add-size : goal.overflow_add-size
overflow_add-size c =
    omega (arith, c.beside.ensures, beside_most (eqb c.args.field c.fields_of.result))

pub returns-then-at-d : goal.returns-then-at-d
unfolding numbered_written numbered
returns-then-at-d c =
    let a = c.args in
    let known_size = laid_size a.file a.field a.text.now c.fields_of.result c.beside.result c.fields_of.ensures c.beside.ensures in
    let over : length a.d.now < a.place + length (field_bytes a.file a.field a.text.now) =
    elim c.then-at-d.branch [ then-at-d-via-then-at-d w ↦ omega (arith, w.if-at-d.true) | then-at-d-via-else-at-d+then-size-d w ↦ omega (arith, known_size, w.if-at-d.false, w.if-size-d.true) ] in
    when_no_room a.file a.field a.text.now a.d.now a.place (sym c.has_field.ensures ∙ c.if-not-has_field.false) (sym c.permitted.ensures ∙ c.if-not-permitted.false) over

pub lay-requires : goal.lay-requires
lay-requires c =
    rw (mid_all c.args.d.now c.args.place, length-drop) (omega (arith, field_size (eqb c.args.field c.fields_of.result) c.args.text.now, c.beside.ensures))

pub returns : goal.returns
unfolding numbered_written numbered
returns c =
    let a = c.args in
    let known_field = sym c.has_field.ensures ∙ c.if-not-has_field.false in
    let known_text = sym c.permitted.ensures ∙ c.if-not-permitted.false in
    let known_size = laid_size a.file a.field a.text.now c.fields_of.result c.beside.result c.fields_of.ensures c.beside.ensures in
    let w = when_laid a.file a.field a.text.now a.d.now a.place known_field known_text (omega (arith, known_size)) in
    (rw known_size w.0, part_laid a.file a.field a.text.now c.fields_of.result a.d.now a.place _ c.fields_of.ensures (omega arith) c.lay.ensures ∙ w.1)
