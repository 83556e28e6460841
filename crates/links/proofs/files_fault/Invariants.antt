-- `links::files_fault` meets its contract. The loop's invariant: the first fault of the files from `file` on is the first of all.
use Rattle.lookup.specs.Ways.{Lasts}
use Rattle.thirteen.specs.Lent.{batch_of}
use Rattle.recall.specs.Recall.{Recalls}
use Rattle.faulty.proofs.StageLaws.{Onward}
use Rattle.links.proofs.files_fault.Given as goal

abbrev pub invariant-loop-file : goal.invariant-loop-file
invariant-loop-file l = let b = batch_of l.files in
    Onward b l.file × Lasts b l.last × Recalls b l.table
