-- `readany::read_any` meets its contract. The loop's invariant: f fields were read, and the next is due at `at`.
use Rattle.onward.specs.Onward.{Due}
use Rattle.readany.proofs.read_any.Given as goal

abbrev pub invariant-loop-f : goal.invariant-loop-f
invariant-loop-f l = Due l.file l.n l.s l.start l.places l.f l.at
