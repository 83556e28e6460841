-- The first of several faults, and what the answer of a stage says of it: a fault of number 0 is none, and the next stage's counts.
use mathlib.Core.Path.{◌≡◌, refl, ◌∙◌}
use mathlib.Core.Bool.{Bool, true, false, not}
use mathlib.Core.List.{List, [], ◌∷◌}
use Prim.Native.Nat.{ℕ, zero, suc, ◌<◌}
use native.Mathlib.Omega.{arith}
use lib.Dec.{eqb}
use lib.ListN.{length, get_or, take, drop}
use borrow.Author.Tests.{eqb-true, eqb-false}
use Rattle.laws.specs.Tests.{either}
use Rattle.laws.specs.Numbered.{Numbered, answered}
use Rattle.fault.specs.Answers.{numbered_fault}
use Rattle.fault.specs.declared.Fault.{Fault}
use Rattle.fault.proofs.FaultLaws.{none_zero, is_some, is_zero}
use Rattle.filestages.specs.Order.{first_fault}

-- the first of several faults: where that of the first n has number 0, the others count, else it is that of all
pub first_past : (n : ℕ) (xs : List Numbered) → (first_fault (take n xs)).number ≡ 0 → first_fault xs ≡ first_fault (drop n xs)
unfolding first_fault
first_past zero xs e = refl
first_past (suc n) [] e = refl
first_past (suc n) (x ∷ xs) e =
    either (eqb x.number 0)
    (λ p. rw p (first_past n xs (rw p at e)))
    (λ p. absurd (eqb-false x.number 0 p (rw p at e)))

pub first_among : (n : ℕ) (xs : List Numbered) → ((first_fault (take n xs)).number ≡ 0 → ⊥) → first_fault (take n xs) ≡ first_fault xs
unfolding first_fault
first_among zero xs h = absurd (h refl)
first_among (suc n) [] h = refl
first_among (suc n) (x ∷ xs) h = either (eqb x.number 0) (λ p. rw p (first_among n xs (rw p at h))) (λ p. rw p)

-- where the first has number 0, so has each
first_turn : (x : Numbered) (xs : List Numbered) → (first_fault (x ∷ xs)).number ≡ 0 → (x.number ≡ 0) × ((first_fault xs).number ≡ 0)
unfolding first_fault
first_turn x xs e =
    either (eqb x.number 0)
    (λ p. (eqb-true x.number 0 p, rw p at e))
    (λ p. absurd (eqb-false x.number 0 p (rw p at e)))

pub first_each : (xs : List Numbered) → (first_fault xs).number ≡ 0 → (i : ℕ) → i < length xs → (get_or xs i (answered [])).number ≡ 0
first_each [] e i l = absurd (omega arith)
first_each (x ∷ xs) e zero l = (first_turn x xs e).0
first_each (x ∷ xs) e (suc i) l = first_each xs (first_turn x xs e).1 i (omega arith)

-- a fault is the first of itself alone
pub first_one : (f : Fault) (a : Numbered) → numbered_fault f ≡ a → numbered_fault f ≡ first_fault (a ∷ [])
unfolding first_fault
first_one f a e =
    either (eqb a.number 0)
    (λ p. rw p (none_zero f (rw e (eqb-true a.number 0 p))))
    (λ p. rw p e)

-- what the first n stages came to: the fault of all, or the stages behind them count
module _ (f : Fault) (r : Bool) (t : r ≡ eqb (numbered_fault f).number 0) (n : ℕ) (xs : List Numbered) (e : numbered_fault f ≡ first_fault (take n xs)) where
  pub stages_stop : not r ≡ true → numbered_fault f ≡ first_fault xs
  stages_stop h = e ∙ first_among n xs (λ z. is_some f r t h (rw e z))

  pub stages_past : not r ≡ false → first_fault xs ≡ first_fault (drop n xs)
  stages_past h = first_past n xs (rw e at (is_zero f r t h))

  -- and then each of the n has number 0
  pub stages_zero : not r ≡ false → (i : ℕ) → i < length (take n xs) → (get_or (take n xs) i (answered [])).number ≡ 0
  stages_zero h = first_each (take n xs) (rw e at (is_zero f r t h))
