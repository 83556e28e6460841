-- What the exported questions about a batch's trips give, for C.
use Rattle.std.specs.Prelude.{ℕ, ◌≡◌, List}
use Rattle.thirteen.specs.Batch.{Batch}
use Rattle.counter.specs.Answers.{runs_answer}
use Rattle.calls.specs.Answers.{stop_answer}
use Rattle.tripresults.specs.Results.{runs_result, stop_result}
use Rattle.tripresults.specs.declared.RunsResult.{RunsResult}
use Rattle.tripresults.specs.declared.TripStopResult.{TripStopResult}

-- whether a trip runs on a day
abbrev pub RunsGives : Batch → ℕ → ℕ → ℕ → List ℕ → RunsResult → Type 0
RunsGives b line trip d holidays r = r ≡ runs_result (runs_answer b line trip d holidays)

-- a trip's nth stop
abbrev pub TripStopGives : Batch → ℕ → ℕ → ℕ → TripStopResult → Type 0
TripStopGives b line trip n r = r ≡ stop_result (stop_answer b line trip n)
