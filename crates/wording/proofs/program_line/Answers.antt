-- `wording::program_line` meets its contract: too many bytes have their own line, and fewer the line of the verdict.
use mathlib.Core.Path.{◌∙◌}
use native.Mathlib.Nat.{zero-add}
use native.Mathlib.Omega.{arith}
use Rattle.thirteen.specs.Batch.{Batch}
use Rattle.thirteen.specs.Lent.{batch_of}
use Rattle.wording.specs.Line.{too_large}
use Rattle.wording.proofs.LineLaws.{verdict_judged, few_line, many_line}
use Rattle.wording.proofs.program_line.Goals as goal

pub returns-else-few_enough : goal.returns-else-few_enough
unfolding too_large
returns-else-few_enough c =
    let files : Batch = batch_of c.args.files.now in
    rw (many_line files c.few_enough.result c.few_enough.ensures c.if-few_enough.false) (c.lay.ensures.0, c.lay.ensures.1 ∙ zero-add _, omega arith)

pub lay_verdict-requires : goal.lay_verdict-requires
lay_verdict-requires c =
    let files : Batch = batch_of c.args.files.now in
    (c.requires, rw c.check-verdict.ensures (verdict_judged files))

pub returns-then-few_enough : goal.returns-then-few_enough
returns-then-few_enough c =
    let files : Batch = batch_of c.args.files.now in
    rw (few_line files c.few_enough.result c.few_enough.ensures c.if-few_enough.true, ← c.check-verdict.ensures) c.lay_verdict.ensures
