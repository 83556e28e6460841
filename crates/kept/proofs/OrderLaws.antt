-- A list in travel order by its places: where numbers strictly rise, one place is before another exactly as their numbers rise, or fall.
use mathlib.Core.Path.{◌≡◌, refl, ◌∙◌}
use mathlib.Core.List.{List, [], ◌∷◌}
use Prim.Native.Nat.{ℕ, zero, suc, ◌+◌, ◌-◌, ◌<◌, ◌%◌}
use native.Mathlib.Omega.{arith}
use lib.Dec.{eqb}
use lib.ListN.{length, get_or, get_or-append}
use lib.Seq.{get_or_at}
use Rattle.laws.specs.Tests.{pick, either}
use Rattle.trail.specs.Lists.{backward, rising, travel}
use Rattle.trail.proofs.ListLaws.{Climbing, length_backward}
use Rattle.kept.proofs.Members.{all_member}

module _ {A : Type 0} (d : A) where
  -- place i from the front is place j from the back
  backward_at : (l : List A) (i j : ℕ) → i + suc j ≡ length l → get_or (backward l) i d ≡ get_or l j d
  unfolding backward
  backward_at [] i j e = absurd (omega arith)
  backward_at (a ∷ l) i zero e = get_or_at (backward l) a [] d i (omega (arith, length_backward l))
  backward_at (a ∷ l) i (suc j) e =
      get_or-append (backward l) (a ∷ []) d i (omega (arith, length_backward l)) ∙ backward_at l i j (omega arith)

  module _ (number : A → ℕ) where
    -- a later place has a greater number
    climbing_at : (l : List A) → Climbing number l → (i j : ℕ) → i < j → j < length l → number (get_or l i d) < number (get_or l j d)
    unfolding Climbing
    climbing_at [] c i j h g = absurd (omega arith)
    climbing_at (a ∷ l) c i zero h g = absurd (omega arith)
    climbing_at (a ∷ l) c zero (suc j) h g = all_member d (λ b. number a < number b) l c.0 (get_or l j d) (j, omega arith, refl)
    climbing_at (a ∷ l) c (suc i) (suc j) h g = climbing_at l c.1 i j (omega arith) (omega arith)

    -- and backward a lesser one
    falling_at : (l : List A) → Climbing number l → (i j : ℕ) → i < j → j < length l → number (get_or (backward l) j d) < number (get_or (backward l) i d)
    falling_at l c i j h g =
        let e = backward_at l i (length l - suc i) (omega arith) in
        let f = backward_at l j (length l - suc j) (omega arith) in
        rw (e, f) (climbing_at l c (length l - suc j) (length l - suc i) (omega arith) (omega arith))

    -- so in travel order
    pub travel_at : (trip : ℕ) (l : List A) → Climbing number (rising number l) → (i j : ℕ) → i < j → j < length (travel number trip l)
        → pick (eqb (trip % 2) 1)
        (number (get_or (travel number trip l) i d) < number (get_or (travel number trip l) j d))
        (number (get_or (travel number trip l) j d) < number (get_or (travel number trip l) i d))
    unfolding travel
    travel_at trip l c i j h g =
        either (eqb (trip % 2) 1)
        (λ t. rw t (climbing_at (rising number l) c i j h (rw t at g)))
        (λ t.
        let k : j < length (backward (rising number l)) = rw t at g in
        rw t (falling_at (rising number l) c i j h (omega (arith, length_backward (rising number l)))))
