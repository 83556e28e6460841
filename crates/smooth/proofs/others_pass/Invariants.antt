-- `smooth::others_pass` meets its contract. The loop's invariant: the files from 8 on below `file` pass beside those that are linked to.
use Rattle.thirteen.specs.Lent.{batch_of}
use Rattle.smooth.specs.Smooth.{targets_in}
use Rattle.smooth.proofs.TargetLaws.{PassedBelow}
use Rattle.smooth.proofs.others_pass.Given as goal

abbrev pub invariant-loop-file : goal.invariant-loop-file
invariant-loop-file l = PassedBelow (targets_in l.files) (batch_of l.files) l.file
