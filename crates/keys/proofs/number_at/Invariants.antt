-- `keys::number_at` meets its contract. The loop's invariant: the digits that are left, after digits worth `v`, make the number, and those
-- passed are worth less than 10 to their number, so no sum wraps.
use Rattle.keys.proofs.DigitLaws.{Passed}
use Rattle.keys.proofs.number_at.Given as goal

abbrev pub invariant-loop-i : goal.invariant-loop-i
invariant-loop-i l = Passed l.s l.at l.v l.i
