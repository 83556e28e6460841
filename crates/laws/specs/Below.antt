-- A rule at each number below n from one test that is computed over the whole: how a table's rule is proved once.
use Rattle.std.specs.Prelude.{◌≡◌, Bool, true, false, ℕ, zero, suc, ◌<◌, T}
use Rattle.std.proofs.Common.{subst, sym, arith}
use Rattle.std.proofs.Math.Decide.{ℕ_discrete}
use Rattle.laws.specs.Tests.{both}

left : (a b : Bool) → T (both a b) → T a
left true b t = tt
left false b t = t

right : (a b : Bool) → T (both a b) → T b
right true b t = t
right false b t = absurd t

-- the test f holds at each number below n
abbrev pub all : ℕ → (ℕ → Bool) → Bool
all zero f = true
all (suc n) f = both (f n) (all n f)

pub below : (n : ℕ) (f : ℕ → Bool) → T (all n f) → (k : ℕ) → k < n → T (f k)
below zero f t k h = absurd (omega arith)
below (suc n) f t k h = go (ℕ_discrete k n) (below n f (right (f n) (all n f) t) k)
  where
    go : Dec (k ≡ n) → (k < n → T (f k)) → T (f k)
    go (yes e) r = subst (λ (m : ℕ). T (f m)) (sym e) (left (f n) (all n f) t)
    go (no e) r = r (omega arith)
