-- `overfiles::first_long` meets its contract. The loop's invariant: the first fault from `file` on is the first of all.
use mathlib.Core.Path.{◌≡◌}
use Prim.Native.Nat.{◌-◌}
use Rattle.thirteen.specs.Batch.{over_files}
use Rattle.thirteen.specs.Lent.{batch_of}
use Rattle.overfiles.specs.OneFile.{length_fault}
use Rattle.overfiles.proofs.first_long.Given as goal

abbrev pub invariant-loop-file : goal.invariant-loop-file
invariant-loop-file l = over_files (length_fault (batch_of l.files)) l.file (14 - l.file) ≡ over_files (length_fault (batch_of l.files)) 1 13
