-- What comes back of many questions on a batch, and what the list holds.
use mathlib.Core.Path.{◌≡◌, sym, ◌∙◌}
use mathlib.Core.Bool.{Bool, true, not}
use mathlib.Core.List.{List, [], ◌∷◌}
use Prim.Native.Nat.{ℕ, ◌*◌, ◌≤◌}
use lib.Dec.{eqb, leb}
use lib.ListN.{length}
use borrow.Author.Tests.{not-true, leb-true}
use Rattle.laws.specs.Numbered.{Numbered, answered, refused}
use Rattle.laws.specs.Splice.{splice}
use Rattle.laws.specs.Tests.{pick}
use Rattle.thirteen.specs.Batch.{Batch, records_of}
use Rattle.fault.specs.Answers.{numbered_fault}
use Rattle.fault.specs.declared.Fault.{Fault}
use Rattle.batch.specs.Order.{fault_of}
use Rattle.batch.proofs.VerdictLaws.{a_fault}
use Rattle.asking.specs.Rows.{rows, questions}
use Rattle.asking.specs.Answers.{numbered_sales}
use Rattle.asking.specs.declared.Sales.{Sales}
use Rattle.asking.proofs.RowLaws.{rows_same, room_short, room_enough}
use Rattle.answering.specs.Plainly.{plainly}
use Rattle.selling.specs.Sales.{single, sales_answer, sales_list, SalesIs}
use Rattle.selling.proofs.SellingLaws.{sale_plain, list_kept}

-- A BATCH, the questions, and the lent list.
module _ (b : Batch) (holidays asked list : List ℕ) where
  -- the batch's own
  pub sales_refused : (f : Fault) → numbered_fault f ≡ fault_of b → (t : Bool) → t ≡ eqb (numbered_fault f).number 0 → not t ≡ true
      → SalesIs b holidays asked list (Sales.Refused f) list
  unfolding sales_answer numbered_sales
  sales_refused f e t d h =
      let g : numbered_fault f ≡ sales_answer b asked (length list) = rw (a_fault b f e t d h) e in
      (g, list_kept b holidays asked list g (sym d ∙ not-true t h))

  -- it has none: what comes back is as many as there are, or that there is no room
  module _ (e : fault_of b ≡ answered []) where
    abbrev Room : Numbered → Type 0
    Room r = r ≡ pick (leb (3 * questions asked) (length list)) (answered (questions asked ∷ [])) (refused 22)

    pub sales_no_room : (f : Fault) → Room (numbered_sales (Sales.Refused f)) → SalesIs b holidays asked list (Sales.Refused f) list
    unfolding sales_answer numbered_sales
    sales_no_room f r =
        let g : numbered_fault f ≡ sales_answer b asked (length list) = rw e r in
        (g, list_kept b holidays asked list g (room_short (leb (3 * questions asked) (length list)) f (questions asked) r))

    -- there is room
    pub sales_fit : (n : ℕ) → Room (numbered_sales (Sales.Answered n)) → 3 * questions asked ≤ length list
    unfolding numbered_sales
    sales_fit n r = leb-true (3 * questions asked) (length list) (room_enough (leb (3 * questions asked) (length list)) n (questions asked) r).0

    -- and all are answered, each as the single call does
    pub sales_answered : (n : ℕ) → Room (numbered_sales (Sales.Answered n))
        → {after : List ℕ} → after ≡ splice list 0 (rows (plainly (records_of b 3) (records_of b 5) (records_of b 6) (records_of b 7) (records_of b 8) (records_of b 10) holidays) asked)
        → SalesIs b holidays asked list (Sales.Answered n) after
    unfolding sales_answer sales_list numbered_sales
    sales_answered n r k =
        let g : leb (3 * questions asked) (length list) ≡ true = (room_enough (leb (3 * questions asked) (length list)) n (questions asked) r).0 in
        (rw e r, rw (e, g) (k ∙ rw (rows_same _ (single b holidays) (λ line trip day month year from to. sale_plain b e line trip day month year from to holidays) asked)))
