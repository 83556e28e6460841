-- That one of these records has a key, by test and as a quantified statement: each gives the other, for two lists of numbers are the same
-- by test exactly if they are equal.
use mathlib.Core.Path.{◌≡◌, refl}
use mathlib.Core.Bool.{Bool, true, false}
use mathlib.Core.List.{List, [], ◌∷◌}
use mathlib.Core.Logic.{◌⊎◌, inl, inr}
use Prim.Native.Nat.{ℕ, zero, suc, ◌<◌}
use native.Mathlib.Omega.{arith}
use lib.Dec.{eqb}
use lib.ListN.{length, get_or}
use borrow.Author.Tests.{eqb-true, eq-eqb}
use Rattle.laws.specs.Tests.{one_of, never, both_left, both_right, both_true}
use Rattle.file.specs.Format.{Fields}
use Rattle.keys.specs.Keys.{key_of, same, has}

-- one of two tests holds where the first does
pub one_left : (a b : Bool) → a ≡ true → one_of a b ≡ true
one_left true b e = refl
one_left false b e = never e

-- the second does
pub one_right : (a b : Bool) → b ≡ true → one_of a b ≡ true
one_right true b e = refl
one_right false b e = e

-- so one of the two does
pub one_cases : (a b : Bool) → one_of a b ≡ true → (a ≡ true) ⊎ (b ≡ true)
one_cases true b e = inl refl
one_cases false b e = inr e

-- the same numbers by test are equal
pub same_equal : (j k : List ℕ) → same j k ≡ true → j ≡ k
unfolding same
same_equal [] [] e = refl
same_equal [] (b ∷ k) e = never e
same_equal (a ∷ j) [] e = never e
same_equal (a ∷ j) (b ∷ k) e =
    let p : a ≡ b = eqb-true a b (both_left (eqb a b) (same j k) e) in
    let q : j ≡ k = same_equal j k (both_right (eqb a b) (same j k) e) in
    cc

-- a list is the same as itself
pub same_self : (k : List ℕ) → same k k ≡ true
unfolding same
same_self [] = refl
same_self (a ∷ k) = both_true (eqb a a) (same k k) (eq-eqb a a refl) (same_self k)

-- equal lists are the same by test
pub equal_same : (j k : List ℕ) → j ≡ k → same j k ≡ true
equal_same j k e = rw e (same_self k)

-- the record at some place has this key
abbrev pub Holds : ℕ → List ℕ → List Fields → Type 0
Holds file key rs = (i : ℕ) × (i < length rs) × (key_of file (get_or rs i []) ≡ key)

-- so it is where the test holds
pub has_holds : (file : ℕ) (key : List ℕ) (rs : List Fields) → has file key rs ≡ true → Holds file key rs
unfolding has
has_holds file key [] e = never e
has_holds file key (r ∷ rs) e = go (one_cases (same (key_of file r) key) (has file key rs) e) (has_holds file key rs)
  where
    go : (same (key_of file r) key ≡ true) ⊎ (has file key rs ≡ true) → (has file key rs ≡ true → Holds file key rs) → Holds file key (r ∷ rs)
    go (inl p) rest = (0, omega arith, same_equal (key_of file r) key p)
    go (inr p) rest = let h = rest p in (suc h.0, omega (arith, h.1), h.2)

-- and the test holds where it is so
pub holds_has : (file : ℕ) (key : List ℕ) (rs : List Fields) (i : ℕ) → i < length rs → key_of file (get_or rs i []) ≡ key → has file key rs ≡ true
unfolding has
holds_has file key [] i h e = absurd (omega arith)
holds_has file key (r ∷ rs) zero h e = one_left (same (key_of file r) key) (has file key rs) (equal_same (key_of file r) key e)
holds_has file key (r ∷ rs) (suc i) h e =
    one_right (same (key_of file r) key) (has file key rs) (holds_has file key rs i (omega arith) e)
