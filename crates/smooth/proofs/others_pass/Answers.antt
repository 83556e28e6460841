-- `smooth::others_pass` meets its contract. The loop's invariant: the files from 8 on below `file` pass beside those that are linked to.
use native.Mathlib.Omega.{arith}
use Rattle.thirteen.specs.Batch.{Batch}
use Rattle.thirteen.specs.Lent.{batch_of}
use Rattle.smooth.specs.Smooth.{targets_in}
use Rattle.smooth.proofs.OrderlyLaws.{orderly_sound}
use Rattle.smooth.proofs.PassedLaws.{passed_stops}
use Rattle.smooth.proofs.TargetLaws.{one_more, targets_orderly, all_passed}
use Rattle.smooth.proofs.others_pass.Goals as goal

pub loop-file-init : goal.loop-file-init
loop-file-init c = λ k h l. absurd (omega arith)

pub passes-requires : goal.passes-requires
passes-requires c =
    let p = c.requires in
    let g : Batch = targets_in c.args.files.now in
    let o = targets_orderly c.args.files.now p.0 in
    (omega arith, omega arith, orderly_sound g o, p.1, p.2 g c.args.paths.order.now o, λ e. passed_stops g (p.0 7 (omega arith) (omega arith)))

pub loop-file-preserved : goal.loop-file-preserved
loop-file-preserved c =
    let f = c.args.files.now in
    one_more (targets_in f) (batch_of f) c.loop-file.file _ c.file_of.ensures c.loop-file.invariant (c.passes.ensures c.if-not-passes.false)

pub returns : goal.returns
returns c t = all_passed c.args.files.now c.requires.0 (λ file h m. c.loop-file.invariant file h (omega arith))
