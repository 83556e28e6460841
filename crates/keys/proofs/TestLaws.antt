-- Two tests of numbers that agree.
use mathlib.Core.Path.{◌≡◌}
use Prim.Native.Nat.{ℕ, ◌≤◌, ◌<◌}
use lib.Dec.{eqb, ltb}
use borrow.Author.Tests.{eq-eqb, ne_eqb, lt-ltb, le-ltb, ltb-true, ltb-false, eqb-true, eqb-false}
use Rattle.laws.specs.Tests.{either}

-- one is below the other as c is below d
pub less_test : (a b c d : ℕ) → (a < b → c < d) → (b ≤ a → d ≤ c) → ltb a b ≡ ltb c d
less_test a b c d p q =
    either (ltb a b)
    (λ e. rw (e, lt-ltb c d (p (ltb-true a b e))))
    (λ e. rw (e, le-ltb c d (q (ltb-false a b e))))

-- one equals the other as c equals d
pub equal_test : (a b c d : ℕ) → (a ≡ b → c ≡ d) → (c ≡ d → a ≡ b) → eqb a b ≡ eqb c d
equal_test a b c d p q =
    either (eqb a b)
    (λ e. rw (e, eq-eqb c d (p (eqb-true a b e))))
    (λ e. rw (e, ne_eqb c d (λ z. eqb-false a b e (q z))))
