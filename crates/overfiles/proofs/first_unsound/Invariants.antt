-- `overfiles::first_unsound` meets its contract. The loop's invariant: the first fault from `file` on is the first of all.
use mathlib.Core.Path.{◌≡◌}
use Prim.Native.Nat.{◌-◌}
use Rattle.thirteen.specs.Batch.{over_files}
use Rattle.thirteen.specs.Lent.{batch_of}
use Rattle.overfiles.proofs.FileLaws.{fault_in}
use Rattle.overfiles.proofs.first_unsound.Given as goal

abbrev pub invariant-loop-file : goal.invariant-loop-file
invariant-loop-file l = over_files (fault_in (batch_of l.files)) l.file (14 - l.file) ≡ over_files (fault_in (batch_of l.files)) 2 12
