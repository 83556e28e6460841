-- Lists of records, or of records with something beside them: those that pass a test, the first that does, by rising number, and backward.
use Rattle.std.specs.Prelude.{ℕ, suc, ◌%◌, List, [], ◌∷◌, ◌++◌, Bool, false, eqb, leb}
use Rattle.laws.specs.Tests.{pick, one_of}

module _ {A : Type 0} where
  -- those for which the test holds, in their order
  unfoldable pub select : (A → Bool) → List A → List A
  select test [] = []
  select test (a ∷ rest) = pick (test a) (a ∷ select test rest) (select test rest)

  -- the first for which it holds, or else `other`
  unfoldable pub first_or : A → (A → Bool) → List A → A
  first_or other test [] = other
  first_or other test (a ∷ rest) = pick (test a) a (first_or other test rest)

  -- the test holds for one of them
  unfoldable pub some : (A → Bool) → List A → Bool
  some test [] = false
  some test (a ∷ rest) = one_of (test a) (some test rest)

  -- for how many it does
  unfoldable pub tally : (A → Bool) → List A → ℕ
  tally test [] = 0
  tally test (a ∷ rest) = pick (test a) (suc (tally test rest)) (tally test rest)

  -- from the last to the first
  unfoldable pub backward : List A → List A
  backward [] = []
  backward (a ∷ rest) = backward rest ++ (a ∷ [])

module _ {A B : Type 0} where
  -- what f makes of each
  unfoldable pub each : (A → B) → List A → List B
  each f [] = []
  each f (a ∷ rest) = f a ∷ each f rest

module _ {A : Type 0} (number : A → ℕ) where
  -- a put in its place into a list that rises by number, before its equals
  unfoldable pub insert : A → List A → List A
  insert a [] = a ∷ []
  insert a (b ∷ bs) = pick (leb (number a) (number b)) (a ∷ b ∷ bs) (b ∷ insert a bs)

  -- by rising number
  unfoldable pub rising : List A → List A
  rising [] = []
  rising (a ∷ rest) = insert a (rising rest)

  -- document 01, "A trip's stops": travel order is rising tariff number for an odd trip number, falling for an even one
  unfoldable pub travel : ℕ → List A → List A
  travel trip all = pick (eqb (trip % 2) 1) (rising all) (backward (rising all))
