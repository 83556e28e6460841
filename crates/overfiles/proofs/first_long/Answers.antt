-- `overfiles::first_long` meets its contract. The loop's invariant: the first fault from `file` on is the first of all.
use mathlib.Core.Path.{sym, ap, ◌∙◌}
use native.Mathlib.Omega.{arith}
use Rattle.laws.specs.Numbered.{Numbered}
use Rattle.file.specs.Answers.{numbered}
use Rattle.thirteen.specs.Batch.{Batch}
use Rattle.thirteen.specs.Lent.{batch_of}
use Rattle.thirteen.proofs.OverLaws.{over_next, over_stop, over_done}
use Rattle.fault.specs.Answers.{numbered_fault}
use Rattle.overfiles.specs.OneFile.{length_fault}
use Rattle.overfiles.proofs.FileLaws.{too_long, short_enough}
use Rattle.overfiles.proofs.first_long.Goals as goal

pub returns-then-s-gt-LONGEST : goal.returns-then-s-gt-LONGEST
unfolding numbered_fault numbered
returns-then-s-gt-LONGEST c =
    let b : Batch = batch_of c.args.files.now in
    let file = c.loop-file.file in
    let e = too_long b file _ c.file_of-s.ensures c.if-s-gt-LONGEST.true in
    sym e ∙ sym (over_stop (length_fault b) file c.loop-file-test.true (λ z. let n = ap (λ (x : Numbered). x.number) e in omega arith)) ∙ c.loop-file.invariant

pub loop-file-preserved : goal.loop-file-preserved
loop-file-preserved c =
    let b : Batch = batch_of c.args.files.now in
    let file = c.loop-file.file in
    let e = short_enough b file _ c.file_of-s.ensures c.if-s-gt-LONGEST.false in
    sym (over_next (length_fault b) file c.loop-file-test.true (ap (λ (x : Numbered). x.number) e)) ∙ c.loop-file.invariant

pub returns : goal.returns
unfolding numbered_fault
returns c =
    let files : Batch = batch_of c.args.files.now in
    sym (over_done (length_fault files) c.loop-file.file (omega arith)) ∙ c.loop-file.invariant
