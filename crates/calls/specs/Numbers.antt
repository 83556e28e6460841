-- The promise.
use Rattle.std.specs.Prelude.{ℕ, ◌≡◌}
use Rattle.thirteen.specs.Batch.{Batch}
use Rattle.outcome.specs.Answers.{numbered_stop}
use Rattle.outcome.specs.declared.Stop.{Stop}
use Rattle.calls.specs.Answers.{stop_answer}

-- the promise of `trip_stop`
abbrev pub StopIs : Batch → ℕ → ℕ → ℕ → Stop → Type 0
StopIs b line trip n r = numbered_stop r ≡ stop_answer b line trip n
