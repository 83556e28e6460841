-- The sale question: a question on a batch that isn't accepted gives that batch's refusal, otherwise 12 to 19 in order, or the two minutes.
use Rattle.std.specs.Prelude.{ℕ, ◌≡◌, List}
use Rattle.laws.specs.Numbered.{Numbered}
use Rattle.thirteen.specs.Batch.{Batch, or_else}
use Rattle.trip.specs.View.{view_of}
use Rattle.outcome.specs.Answers.{numbered_sale}
use Rattle.outcome.specs.declared.Sale.{Sale}
use Rattle.batch.specs.Order.{fault_of}
use Rattle.ticket.specs.Sale.{sale_on}

unfoldable pub sale_answer : Batch → ℕ → ℕ → ℕ → ℕ → ℕ → ℕ → ℕ → List ℕ → Numbered
sale_answer b line trip day month year from to holidays =
    or_else (fault_of b) (sale_on (view_of b line) trip day month year from to holidays)

-- the promise
abbrev pub SaleIs : Batch → ℕ → ℕ → ℕ → ℕ → ℕ → ℕ → ℕ → List ℕ → Sale → Type 0
SaleIs b line trip day month year from to holidays r = numbered_sale r ≡ sale_answer b line trip day month year from to holidays
