-- `faulty::file_order_fault` meets its contract. The loop's invariant: the first fault of the records from `at` on, the first of which is
-- record k, is that of the file.
use Prim.Native.Nat.{◌-◌}
use lib.ListN.{length}
use Rattle.lookup.specs.Ways.{Lasts}
use Rattle.thirteen.specs.Lent.{batch_of}
use Rattle.faulty.proofs.StageLaws.{Left}
use Rattle.faulty.proofs.file_order_fault.Given as goal

abbrev pub invariant-loop-at : goal.invariant-loop-at
invariant-loop-at l = let b = batch_of l.files in
    Left b l.file l.s l.at l.k × Lasts b l.last

abbrev pub decreases-loop-at : goal.decreases-loop-at
decreases-loop-at l = length l.s - l.at
