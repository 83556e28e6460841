-- Many sale questions on one batch, which is checked once.
use Rattle.std.specs.Prelude.{ℕ, ◌*◌, ◌≡◌, List, [], ◌∷◌, eqb, leb, length}
use Rattle.laws.specs.Tests.{pick}
use Rattle.laws.specs.Numbered.{Numbered, answered, refused}
use Rattle.laws.specs.Splice.{splice}
use Rattle.thirteen.specs.Batch.{Batch, or_else}
use Rattle.batch.specs.Order.{fault_of}
use Rattle.asking.specs.Rows.{Ask, questions, rows}
use Rattle.asking.specs.Answers.{numbered_sales}
use Rattle.asking.specs.declared.Sales.{Sales}
use Rattle.selling.specs.Answers.{sale_answer}

-- each is what the single call answers
abbrev pub single : Batch → List ℕ → Ask
single b holidays line trip day month year from to = sale_answer b line trip day month year from to holidays

-- what comes back: how many questions were answered; the batch's refusal, then 22 if the answers don't fit
unfoldable pub sales_answer : Batch → List ℕ → ℕ → Numbered
sales_answer b asked room = or_else (fault_of b) (pick (leb (3 * questions asked) room) (answered (questions asked ∷ [])) (refused 22))

-- what the lent list holds afterwards: the answers from its start on, the rest kept; all of it kept with a refusal
unfoldable pub sales_list : Batch → List ℕ → List ℕ → List ℕ → List ℕ
sales_list b holidays asked list =
    pick (eqb (sales_answer b asked (length list)).number 0) (splice list 0 (rows (single b holidays) asked)) list

-- the promise: the answer, and what the list holds
abbrev pub SalesIs : Batch → List ℕ → List ℕ → List ℕ → Sales → List ℕ → Type 0
SalesIs b holidays asked list r after = (numbered_sales r ≡ sales_answer b asked (length list)) × (after ≡ sales_list b holidays asked list)
