-- `together::few_enough` meets its contract. The loop's invariant: what is left of 61,440 is what the files before leave of it.
use Rattle.thirteen.specs.Lent.{batch_of}
use Rattle.together.proofs.LengthLaws.{Left}
use Rattle.together.proofs.few_enough.Given as goal

abbrev pub invariant-loop-file : goal.invariant-loop-file
invariant-loop-file l = Left (batch_of l.files) l.file l.left
