-- `parts::put_starts` meets its contract. The loop's invariant speaks of what is left: the places of the records that are left, laid over the list as it
-- is, give the list that is wanted.
use mathlib.Core.Path.{◌≡◌}
use Prim.Native.Nat.{◌+◌, ◌-◌, ◌≤◌}
use lib.ListN.{length}
use Rattle.laws.specs.Splice.{splice}
use Rattle.file.specs.Files.{fields_of}
use Rattle.lines.specs.Index.{starts_from, starts}
use Rattle.keys.specs.Ranks.{rank_of}
use Rattle.keys.specs.KeyFiles.{PlaceIn, records_from}
use Rattle.parts.proofs.put_starts.Given as goal

abbrev pub invariant-loop-at : goal.invariant-loop-at
invariant-loop-at l = (l.n ≤ l.at)
    × PlaceIn l.file l.s l.at
    × (l.n + length (records_from l.file l.s l.at) ≡ length l.list)
    × (length l.list ≡ length l.initial.list)
    × (splice l.list l.n (starts_from l.at (records_from l.file l.s l.at)) ≡ starts (fields_of l.file) (rank_of l.file) l.s)

abbrev pub decreases-loop-at : goal.decreases-loop-at
decreases-loop-at l = length l.s - l.at
