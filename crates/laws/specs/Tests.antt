-- A choice by a test, and what the branches of code say of the tests of a definition.
use Rattle.std.specs.Prelude.{◌≡◌, refl, Bool, true, false, ℕ}
use Rattle.std.proofs.Common.{arith, eq-eqb, ne_eqb, lt-ltb, le-ltb, le-leb}
use Rattle.std.proofs.lemmas.Bool.{lt-leb}

-- a where the test holds, else b
abbrev pub pick {ℓ} : {A : Type ℓ} → Bool → A → A → A
pick true a b = a
pick false a b = b

-- both tests hold; one of them does
abbrev pub both : Bool → Bool → Bool
both true b = b
both false b = false

abbrev pub one_of : Bool → Bool → Bool
one_of true b = true
one_of false b = b

-- a test as a number: 1 for yes, 0 for no
abbrev pub bit : Bool → ℕ
bit t = pick t 1 0

-- `search tests` rewrites a definition's tests by the branches that led to a return
pub ruleset tests = (eq-eqb, ne_eqb, lt-ltb, le-ltb, le-leb, lt-leb)

-- a proof by the two cases of a test
pub either : {P : Type 0} (t : Bool) → (t ≡ true → P) → (t ≡ false → P) → P
either true p q = p refl
either false p q = q refl

-- a test doesn't both hold and fail
pub never : {P : Type 0} → false ≡ true → P
never e = let z : ◌≡◌ {A = ℕ} 0 1 = cc in absurd (omega arith)

pub clash : {P : Type 0} {t : Bool} → t ≡ true → t ≡ false → P
clash p q = let z : ◌≡◌ {A = ℕ} 0 1 = cc in absurd (omega arith)

-- what two tests that both hold say of each
pub both_left : (a b : Bool) → both a b ≡ true → a ≡ true
both_left true b e = refl
both_left false b e = e

pub both_right : (a b : Bool) → both a b ≡ true → b ≡ true
both_right true b e = e
both_right false b e = never e

pub both_true : (a b : Bool) → a ≡ true → b ≡ true → both a b ≡ true
both_true true b p q = q
both_true false b p q = p

pub both_false : (a b : Bool) → a ≡ false → both a b ≡ false
both_false true b e = clash refl e
both_false false b e = refl
