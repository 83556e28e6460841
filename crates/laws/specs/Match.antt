-- The numbers that no arm of a match names.
use Rattle.std.specs.Prelude.{ℕ, zero, suc, ◌+◌, ◌≤◌, ◌≡◌}
use Rattle.std.proofs.Common.{arith}

-- f is none of the n numbers from a on
abbrev pub Rest : ℕ → ℕ → ℕ → Type 0
Rest a zero f = Unit
Rest a (suc n) f = Rest a n f × (f ≡ a + n → ⊥)

-- one more number that f is not
pub up : (n : ℕ) {f : ℕ} → n ≤ f → (f ≡ n → ⊥) → suc n ≤ f
up n h ne = omega arith

-- so it is past them, or before
pub past : (a n f : ℕ) → Rest a n f → a ≤ f → a + n ≤ f
past a zero f r h = omega arith
past a (suc n) f r h = omega (arith, up (a + n) (past a n f r.0 h) r.1)
