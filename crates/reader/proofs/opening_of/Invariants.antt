-- `reader::opening_of` meets its contract. The loop's invariant: from `at` on, all texts but those passed stand before the one that is
-- sought. In a legal file a text's whole closing stands where it ends, so the next field starts past it.
use Prim.Native.Nat.{◌-◌, ◌<◌}
use Rattle.file.proofs.SeekLaws.{TextsLeft}
use Rattle.reader.proofs.opening_of.Given as goal

abbrev pub invariant-loop-passed : goal.invariant-loop-passed
invariant-loop-passed l = (l.field < l.n) × TextsLeft l.n l.s l.others l.at l.field (l.others - l.passed)
