-- Whether a trip runs on a day. A question on a batch that isn't accepted gives that batch's refusal.
use Rattle.std.specs.Prelude.{ℕ, Bool, List, [], ◌∷◌}
use Rattle.laws.specs.Tests.{pick, bit}
use Rattle.laws.specs.Numbered.{Numbered, answered, refused}
use Rattle.dates.specs.Dates.{is_day}
use Rattle.keys.specs.Keys.{has}
use Rattle.thirteen.specs.Batch.{Batch, records_of, or_else}
use Rattle.trip.specs.Stage.{trips_file}
use Rattle.trip.specs.View.{view_of, runs_on}
use Rattle.batch.specs.Order.{fault_of}

-- there is a trip of this line and number
abbrev pub has_trip : Batch → ℕ → ℕ → Bool
has_trip b line trip = has trips_file (line ∷ trip ∷ []) (records_of b trips_file)

-- whether it runs on day d: 12 for a day past 73048, 13 for no such trip
unfoldable pub runs_answer : Batch → ℕ → ℕ → ℕ → List ℕ → Numbered
runs_answer b line trip d holidays =
    or_else (fault_of b)
    (pick (is_day d)
    (pick (has_trip b line trip) (answered (bit (runs_on (view_of b line) trip holidays d) ∷ [])) (refused 13))
    (refused 12))
