-- A walk along a trip's records, by the place where it stands: what is left of them from there on.
use Rattle.std.specs.Prelude.{Bool, List, [], ◌∷◌, ℕ, ltb, length}
use Rattle.laws.specs.Tests.{pick}
use Rattle.file.specs.Files.{fields_of}
use Rattle.file.specs.Format.{Fields}
use Rattle.file.specs.Records.{records_in}
use Rattle.keys.specs.Keys.{third}
use Rattle.keys.specs.Ranks.{record_at}
use Rattle.trail.specs.Trail.{upward, ahead, after}

-- the trip's records from the one at `at` on
unfoldable pub left_at : ℕ → List ℕ → Bool → ℕ → ℕ → ℕ → List Fields
left_at file s up line trip at =
    pick (ltb at (length s))
    (record_at file s at ∷ ahead file up (after up (third file (record_at file s at))) (upward file line trip (records_in (fields_of file) s)))
    []
