-- `search::by_search` meets its contract. The loop's invariant: the first record with the key from the one at `at` on is the first of all.
use mathlib.Core.Path.{◌≡◌}
use Prim.Native.Nat.{◌-◌}
use lib.ListN.{length}
use Rattle.file.specs.Files.{fields_of}
use Rattle.file.specs.Records.{records_in}
use Rattle.lines.specs.Order.{first_ranked}
use Rattle.keys.specs.KeyFiles.{PlaceIn, records_from}
use Rattle.keys.specs.Ranks.{rank_of, rank_key}
use Rattle.search.proofs.by_search.Given as goal

abbrev pub invariant-loop-at : goal.invariant-loop-at
invariant-loop-at l = PlaceIn l.file l.s l.at
    × (first_ranked (rank_of l.file) (rank_key l.k) l.at (records_from l.file l.s l.at) ≡ first_ranked (rank_of l.file) (rank_key l.k) 0 (records_in (fields_of l.file) l.s))

abbrev pub decreases-loop-at : goal.decreases-loop-at
decreases-loop-at l = length l.s - l.at
