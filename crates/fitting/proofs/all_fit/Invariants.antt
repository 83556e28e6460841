-- `fitting::all_fit` meets its contract. The loop's invariant: nothing is wrong with the records that the entries below i name.
use Rattle.lookup.specs.Ways.{Lasts}
use Rattle.thirteen.specs.Lent.{batch_of}
use Rattle.recall.specs.Recall.{Recalls}
use Rattle.fitting.proofs.HintLaws.{Hinted, Fit}
use Rattle.fitting.proofs.all_fit.Given as goal

abbrev pub invariant-loop-i : goal.invariant-loop-i
invariant-loop-i l = let b = batch_of l.files in
    Hinted b l.file l.s l.part × Fit b l.file l.s l.part l.i × Lasts b l.last × Recalls b l.table
