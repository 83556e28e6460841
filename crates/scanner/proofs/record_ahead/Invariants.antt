-- `scanner::record_ahead` meets its contract. The loop's invariant: the record comes to `at`, where its next field is due.
use Prim.Native.Nat.{◌-◌}
use Rattle.file.proofs.PassLaws.{SoFar}
use Rattle.scanner.proofs.record_ahead.Given as goal

abbrev pub invariant-loop-field : goal.invariant-loop-field
invariant-loop-field l = SoFar l.n l.s l.start l.at (l.field - 1)
