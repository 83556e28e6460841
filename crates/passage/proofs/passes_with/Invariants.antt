-- `passage::passes_with` meets its contract. The loop's invariant: if the file passes from `at` on, it passes.
use Prim.Native.Nat.{◌-◌, ◌≤◌, ◌<◌}
use lib.ListN.{length}
use Rattle.keys.specs.Keys.{none}
use Rattle.lookup.specs.Ways.{Lasts}
use Rattle.thirteen.specs.Lent.{batch_of}
use Rattle.recall.specs.Recall.{Recalls}
use Rattle.passage.proofs.PassLaws.{PassesOn}
use Rattle.passage.proofs.passes_with.Given as goal

abbrev pub invariant-loop-at : goal.invariant-loop-at
invariant-loop-at l = let g = batch_of l.files in
    (l.at ≤ length l.s) × (l.key.lo < none) × (PassesOn g l.file l.s l.at l.key → PassesOn g l.file l.s 0 l.initial.key) × Lasts g l.last × Recalls g l.table

abbrev pub decreases-loop-at : goal.decreases-loop-at
decreases-loop-at l = length l.s - l.at
