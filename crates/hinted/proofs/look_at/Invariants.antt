-- `hinted::look_at` meets its contract. The loop's invariant is what is known of the entries below `i`.
use Rattle.hinted.proofs.HintedLaws.{Seen}
use Rattle.hinted.proofs.look_at.Given as goal

abbrev pub invariant-loop-i : goal.invariant-loop-i
invariant-loop-i l = Seen l.file l.s l.order l.was l.last l.kind l.i
