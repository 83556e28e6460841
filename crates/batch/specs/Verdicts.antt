-- What the check of a batch comes back with: accepted with the counts of files 2, 5, 6 and 8, or its first fault.
use Rattle.std.specs.Prelude.{ℕ, ◌≡◌, List, [], ◌∷◌, eqb, length}
use Rattle.laws.specs.Tests.{pick}
use Rattle.laws.specs.Numbered.{Numbered, answered}
use Rattle.thirteen.specs.Batch.{Batch, records_of}
use Rattle.outcome.specs.Answers.{numbered_verdict}
use Rattle.outcome.specs.declared.Verdict.{Verdict}
use Rattle.batch.specs.Order.{fault_of}

-- how many records the files 2, 5, 6 and 8 have: stops, lines, trips, trip stops
unfoldable pub counts_of : Batch → List ℕ
counts_of b = length (records_of b 2) ∷ length (records_of b 5) ∷ length (records_of b 6) ∷ length (records_of b 8) ∷ []

-- the verdict
unfoldable pub verdict_of : Batch → Numbered
verdict_of b = pick (eqb (fault_of b).number 0) (answered (counts_of b)) (fault_of b)

-- the promise of the check
abbrev pub VerdictIs : Batch → Verdict → Type 0
VerdictIs b r = numbered_verdict r ≡ verdict_of b
