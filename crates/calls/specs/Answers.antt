-- The question for a trip's stop. A question on a batch that isn't accepted gives that batch's refusal.
use Rattle.std.specs.Prelude.{ℕ, ◌-◌, [], ◌∷◌, leb, length}
use Rattle.laws.specs.Tests.{pick, both}
use Rattle.laws.specs.Numbered.{Numbered, answered, refused}
use Rattle.keys.specs.Keys.{has}
use Rattle.thirteen.specs.Batch.{Batch, records_of, or_else}
use Rattle.trip.specs.Stage.{trips_file}
use Rattle.trip.specs.View.{view_of, stops_of}
use Rattle.batch.specs.Order.{fault_of}
use Rattle.stopping.specs.Halt.{halt_of}

-- a trip's nth stop in travel order, from 1 on: 13 for no trip of this line and number, 20 if it has no such stop
unfoldable pub stop_answer : Batch → ℕ → ℕ → ℕ → Numbered
stop_answer b line trip n =
    or_else (fault_of b)
    (pick (has trips_file (line ∷ trip ∷ []) (records_of b trips_file))
    (pick (both (leb 1 n) (leb n (length (stops_of (view_of b line) trip)))) (answered (halt_of (view_of b line) trip (n - 1))) (refused 20))
    (refused 13))
