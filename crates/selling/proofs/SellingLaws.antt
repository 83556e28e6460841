-- A sale and many sales, asked of a batch: with no fault, what its records say; with a refusal, that the list is kept.
use mathlib.Core.Path.{◌≡◌}
use mathlib.Core.Bool.{false}
use mathlib.Core.List.{List, []}
use Prim.Native.Nat.{ℕ}
use lib.Dec.{eqb}
use lib.ListN.{length}
use Rattle.laws.specs.Numbered.{Numbered, answered}
use Rattle.thirteen.specs.Batch.{Batch, records_of}
use Rattle.roll.proofs.StandingLaws.{line_met}
use Rattle.batch.specs.Order.{fault_of}
use Rattle.batch.proofs.AcceptedLaws.{standing}
use Rattle.ticket.specs.Plain.{plain_sale, LinesMet}
use Rattle.ticket.proofs.ViewOfSale.{plain_sale_lem}
use Rattle.selling.specs.Answers.{sale_answer}
use Rattle.selling.specs.Sales.{sales_answer, sales_list}

-- A BATCH WITH NO FAULT. The line of each of its trips is there
module _ (b : Batch) (e : fault_of b ≡ answered []) where
  pub lines_met : LinesMet (records_of b 5) (records_of b 6)
  lines_met line trip = line_met b line trip (standing b e).linking

  -- and its records say what a sale comes to
  pub sale_plain : (line trip day month year from to : ℕ) (holidays : List ℕ)
      → plain_sale (records_of b 3) (records_of b 5) (records_of b 6) (records_of b 7) (records_of b 8) (records_of b 10) line trip day month year from to holidays
      ≡ sale_answer b line trip day month year from to holidays
  unfolding sale_answer
  sale_plain line trip day month year from to holidays = rw e (plain_sale_lem b (standing b e) line trip day month year from to holidays)

-- MANY SALES. With a refusal the list is kept.
pub list_kept : (b : Batch) (holidays asked list : List ℕ) {x : Numbered} → x ≡ sales_answer b asked (length list) → eqb x.number 0 ≡ false
    → list ≡ sales_list b holidays asked list
unfolding sales_list
list_kept b holidays asked list e h = rw (← e, h)
