-- `onward::codes_on` meets its contract. The loop's invariant: the fields up to i were read, and the next is due at `at`.
use Rattle.onward.specs.Onward.{Due}
use Rattle.onward.proofs.codes_on.Given as goal

abbrev pub invariant-loop-i : goal.invariant-loop-i
invariant-loop-i l = Due l.file l.n l.s l.start l.places l.i l.at
