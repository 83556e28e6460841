-- `together::few_enough` meets its contract. The loop's invariant: what is left of 61,440 is what the files before leave of it.
use native.Mathlib.Omega.{arith}
use Rattle.thirteen.specs.Batch.{Batch}
use Rattle.thirteen.specs.Lent.{batch_of}
use Rattle.together.proofs.LengthLaws.{left_start, left_short, left_next, left_done}
use Rattle.together.proofs.few_enough.Goals as goal

pub returns-then-s-left : goal.returns-then-s-left
returns-then-s-left c =
    let files : Batch = batch_of c.args.files.now in
    left_short files c.loop-file.file c.loop-file.left c.loop-file.invariant _ c.file_of-s.ensures c.loop-file-test.true c.if-s-left.true

pub loop-file-preserved : goal.loop-file-preserved
loop-file-preserved c =
    let files : Batch = batch_of c.args.files.now in
    left_next files c.loop-file.file c.loop-file.left c.loop-file.invariant _ c.file_of-s.ensures c.loop-file-test.true c.if-s-left.false

pub returns : goal.returns
returns c =
    let files : Batch = batch_of c.args.files.now in
    left_done files c.loop-file.file c.loop-file.left c.loop-file.invariant (omega arith)

pub loop-file-init : goal.loop-file-init
loop-file-init c = left_start _
