-- `writer::has_field` meets its contract: only a file of the thirteen has fields, so its field count alone decides.
use native.Mathlib.Omega.{arith}
use mathlib.Core.Path.{sym}
use borrow.Author.Tests.{eq-eqb}
use Rattle.file.proofs.WriterLaws.{no_field_0, field_known}
use Rattle.writer.proofs.has_field.Goals as goal

pub returns-then-field-ne0 : goal.returns-then-field-ne0
returns-then-field-ne0 c = field_known c.args.file c.args.field c.fields_of.result c.fields_of.ensures (omega arith)

pub returns-else-field-ne0 : goal.returns-else-field-ne0
returns-else-field-ne0 c = rw (eq-eqb c.args.field 0 c.if-field-ne0.false) (sym (no_field_0 c.args.file c.args.field c.if-field-ne0.false))
