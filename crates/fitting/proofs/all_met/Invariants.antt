-- `fitting::all_met` meets its contract. The loop's invariant: the first fault of the records from `at` on is that of the file.
use Prim.Native.Nat.{ℕ, ◌-◌}
use lib.ListN.{length}
use Rattle.lookup.specs.Ways.{Lasts}
use Rattle.thirteen.specs.Lent.{batch_of}
use Rattle.recall.specs.Recall.{Recalls}
use Rattle.faulty.proofs.StageLaws.{Left}
use Rattle.fitting.proofs.all_met.Given as goal

abbrev pub invariant-loop-at : goal.invariant-loop-at
invariant-loop-at l = let b = batch_of l.files in
    ((k : ℕ) × Left b l.file l.s l.at k) × Lasts b l.last × Recalls b l.table

abbrev pub decreases-loop-at : goal.decreases-loop-at
decreases-loop-at l = length l.s - l.at
