-- Laws of the hint: what comes back of a batch, and what the lent list holds.
use mathlib.Core.Path.{◌≡◌, refl, sym, ap, ◌∙◌}
use mathlib.Core.Bool.{Bool, true, false, not}
use mathlib.Core.List.{List}
use Prim.Native.Nat.{ℕ, ◌≤◌, ◌<◌}
use borrow.Author.Tests.{eq-eqb, not-true, not-false, le-leb, lt-leb, eqb-true}
use lib.Dec.{eqb, leb}
use lib.ListN.{length}
use Rattle.laws.specs.Numbered.{Numbered, refused}
use Rattle.laws.specs.Splice.{splice}
use Rattle.file.specs.Answers.{numbered}
use Rattle.file.specs.declared.Refusal.{Refusal}
use Rattle.thirteen.specs.Batch.{Batch}
use Rattle.fault.specs.Answers.{numbered_fault}
use Rattle.fault.specs.declared.Fault.{Fault}
use Rattle.filestages.specs.Order.{first_fault, file_stages}
use Rattle.parts.specs.Parts.{hint_of}
use Rattle.arrange.specs.Hint.{hint_answer, hint_list, numbered_hint, HintIs}
use Rattle.arrange.specs.declared.Arranged.{Arranged}

-- A BATCH, and the lent list.
module _ (b : Batch) (list : List ℕ) where
  -- with a refusal the list is kept
  kept : {x : Numbered} → x ≡ hint_answer b (length list) → eqb x.number 0 ≡ false → list ≡ hint_list b list
  unfolding hint_list
  kept e h = rw (← e, h)

  -- what is wrong with a file by itself, or nothing
  module _ (f : Fault) (e : numbered_fault f ≡ first_fault (file_stages b)) (t : Bool) (d : t ≡ eqb (numbered_fault f).number 0) where
    pub hint_refused : not t ≡ true → HintIs b list (Arranged.Refused f) list
    unfolding hint_answer numbered_hint
    hint_refused h =
        let z : eqb (first_fault (file_stages b)).number 0 ≡ false = ap (λ (a : Numbered). eqb a.number 0) (sym e) ∙ sym d ∙ not-true t h in
        let g : numbered_fault f ≡ hint_answer b (length list) = rw z e in
        (g, kept g (sym d ∙ not-true t h))

    pub nothing_wrong : not t ≡ false → (first_fault (file_stages b)).number ≡ 0
    nothing_wrong h = ap (λ (a : Numbered). a.number) (sym e) ∙ eqb-true (numbered_fault f).number 0 (sym d ∙ not-false t h)

  module _ (e : (first_fault (file_stages b)).number ≡ 0) where
    -- no room
    pub hint_no_room : length list < length (hint_of b) → HintIs b list (Arranged.Refused (Fault.File Refusal.NoRoom)) list
    unfolding hint_answer numbered_hint numbered_fault numbered
    hint_no_room h =
        let g : refused 22 ≡ hint_answer b (length list) = rw (eq-eqb (first_fault (file_stages b)).number 0 e, lt-leb (length (hint_of b)) (length list) h) in
        (g, kept g refl)

    -- the hint was laid
    pub hint_made : length (hint_of b) ≤ length list → {after : List ℕ} → after ≡ splice list 0 (hint_of b) → {size : ℕ} → size ≡ length (hint_of b)
        → HintIs b list (Arranged.Wrote size) after
    unfolding hint_answer hint_list numbered_hint
    hint_made h k z =
        let g : leb (length (hint_of b)) (length list) ≡ true = le-leb (length (hint_of b)) (length list) h in
        let y = eq-eqb (first_fault (file_stages b)).number 0 e in
        (rw (y, g, z), rw (y, g) k)
