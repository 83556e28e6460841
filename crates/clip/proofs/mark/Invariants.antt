-- `clip::mark` meets its contract. The loop's invariant: `start` is where text i starts, the places before i say where theirs do, and those
-- from i on are as they were. Behind the loop text i is the last, and its line ends where the record does.
use mathlib.Core.Path.{◌≡◌}
use Prim.Native.Nat.{◌+◌}
use Rattle.walk.proofs.StartLaws.{text_start, Marked}
use Rattle.walk.proofs.WalkLaws.{first_record}
use Rattle.clip.proofs.mark.Given as goal

abbrev pub invariant-loop-i : goal.invariant-loop-i
invariant-loop-i l = (l.last + 1 ≡ l.n) × (l.start ≡ text_start l.at (first_record l.n l.s l.at) l.i) × Marked l.at (first_record l.n l.s l.at) l.initial.places l.places l.i
