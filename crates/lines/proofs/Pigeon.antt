-- A list of different numbers, all of another list that is no longer: it has every number of that list.
use Prim.Native.Nat.{ℕ, suc, ◌≤◌}
use mathlib.Core.Path.{◌≡◌, refl, sym, ◌∙◌, ap}
use mathlib.Core.Logic.{◌⊎◌, inl, inr, ⊎_elim}
use mathlib.Core.List.{List, [], ◌∷◌}
use native.Mathlib.Omega.{arith}
use lib.Dec.{eqb}
use lib.ListN.{length}
use borrow.Author.Tests.{eqb-true, eq-eqb}
use Rattle.laws.specs.Tests.{pick, either}
use Rattle.lines.specs.Index.{In}

unfoldable pub Distinct : List ℕ → Type 0
Distinct [] = Unit
Distinct (x ∷ xs) = (In x xs → ⊥) × Distinct xs

-- ys without its first x
unfoldable remove : ℕ → List ℕ → List ℕ
remove x [] = []
remove x (y ∷ ys) = pick (eqb x y) ys (y ∷ remove x ys)

remove_length : (x : ℕ) (ys : List ℕ) → In x ys → suc (length (remove x ys)) ≡ length ys
unfolding In remove
remove_length x [] i = absurd i
remove_length x (y ∷ ys) (inl e) = rw (eq-eqb x y e)
remove_length x (y ∷ ys) (inr i) =
    either (eqb x y) (λ e. rw e) (λ e. rw e (ap suc (remove_length x ys i)))

remove_in : (x z : ℕ) (ys : List ℕ) → In z ys → (z ≡ x) ⊎ In z (remove x ys)
unfolding In remove
remove_in x z [] i = absurd i
remove_in x z (y ∷ ys) (inl e) =
    either (eqb x y) (λ t. inl (e ∙ sym (eqb-true x y t))) (λ t. inr (rw t (inl e)))
remove_in x z (y ∷ ys) (inr i) =
    either (eqb x y) (λ t. inr (rw t i)) (λ t. ⊎_elim (λ e. inl e) (λ j. inr (rw t (inr j))) (remove_in x z ys i))

pub pigeon : (xs ys : List ℕ) → Distinct xs → ((z : ℕ) → In z xs → In z ys) → length ys ≤ length xs → (z : ℕ) → In z ys → In z xs
unfolding In Distinct
pigeon [] [] d sub h z i = i
pigeon [] (y ∷ ys) d sub h z i = absurd (omega arith)
pigeon (x ∷ xs) ys d sub h z i =
    let shorter : length (remove x ys) ≤ length xs = omega (arith, remove_length x ys (sub x (inl refl))) in
    let rest : (w : ℕ) → In w xs → In w (remove x ys) =
    λ w j. ⊎_elim (λ e. absurd (d.0 (rw e at j))) (λ k. k) (remove_in x w ys (sub w (inr j))) in
    ⊎_elim (λ e. inl e) (λ j. inr (pigeon xs (remove x ys) d.1 rest shorter z j)) (remove_in x z ys i)
