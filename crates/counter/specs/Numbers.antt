-- The promise.
use Rattle.std.specs.Prelude.{ℕ, ◌≡◌, List}
use Rattle.thirteen.specs.Batch.{Batch}
use Rattle.outcome.specs.Answers.{numbered_runs}
use Rattle.outcome.specs.declared.Running.{Running}
use Rattle.counter.specs.Answers.{runs_answer}

-- the promise of `runs`
abbrev pub RunsIs : Batch → ℕ → ℕ → ℕ → List ℕ → Running → Type 0
RunsIs b line trip d holidays r = numbered_runs r ≡ runs_answer b line trip d holidays
