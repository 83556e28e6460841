-- `walk::mark` meets its contract. The loop's invariant: `start` is where text i starts, the places before i say where theirs do, and
-- those from i on are as they were.
use mathlib.Core.Path.{◌≡◌}
use Rattle.walk.proofs.StartLaws.{text_start, Marked}
use Rattle.walk.proofs.WalkLaws.{first_record}
use Rattle.walk.proofs.mark.Given as goal

abbrev pub invariant-loop-i : goal.invariant-loop-i
invariant-loop-i l = (l.start ≡ text_start l.at (first_record l.n l.s l.at) l.i) × Marked l.at (first_record l.n l.s l.at) l.initial.places l.places l.i
