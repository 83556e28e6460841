-- `quotes::text_close` meets its contract. The loop's invariant: the text from `at` on stops where the text from `i` on stops, and no
-- plain byte stands at `i`.
use Prim.Native.Nat.{◌-◌}
use lib.ListN.{length}
use Rattle.file.proofs.TextLaws.{TextFrom}
use Rattle.quotes.proofs.text_close.Given as goal

abbrev pub invariant-loop-i : goal.invariant-loop-i
invariant-loop-i l = TextFrom l.s l.at l.i

abbrev pub decreases-loop-i : goal.decreases-loop-i
decreases-loop-i l = length l.s - l.i
