-- `writer::lay` meets its contract: quote, text and closing stand side by side, so they are one lay.
use mathlib.Core.Bool.{true, false}
use native.Mathlib.Omega.{arith}
use Rattle.file.proofs.WriterLaws.{field_laid, field_size}
use Rattle.writer.proofs.lay.Goals as goal

pub copy-requires : goal.copy-requires
copy-requires c =
    let a = c.args in
    omega (arith, field_size a.last a.t.now)

pub copy-requires-2 : goal.copy-requires-2
copy-requires-2 c =
    let a = c.args in
    omega (arith, field_size a.last a.t.now)

pub copy-requires-then-last : goal.copy-requires-then-last
copy-requires-then-last c =
    let a = c.args in
    omega (arith, rw c.if-last.true at (field_size a.last a.t.now), rw c.if-last.true at c.requires)

pub returns-then-last : goal.returns-then-last
returns-then-last c =
    field_laid c.args.d.now _ _ _ c.args.t.now c.args.last true c.if-last.true c.requires c.copy.ensures c.copy-2.ensures c.copy-then-last.ensures

pub copy-requires-else-last : goal.copy-requires-else-last
copy-requires-else-last c =
    let a = c.args in
    omega (arith, rw c.if-last.false at (field_size a.last a.t.now), rw c.if-last.false at c.requires)

pub returns-else-last : goal.returns-else-last
returns-else-last c =
    field_laid c.args.d.now _ _ _ c.args.t.now c.args.last false c.if-last.false c.requires c.copy.ensures c.copy-2.ensures c.copy-else-last.ensures
