-- `writer::copy` meets its contract. The loop's invariant: the first `i` bytes of the text are laid, and nothing else.
use mathlib.Core.Path.{◌≡◌}
use lib.ListN.{length, take}
use Rattle.laws.specs.Splice.{splice}
use Rattle.writer.proofs.copy.Given as goal

abbrev pub invariant-loop-i : goal.invariant-loop-i
invariant-loop-i l = (l.d ≡ splice l.initial.d l.at (take l.i l.t)) × (length l.d ≡ length l.initial.d)
