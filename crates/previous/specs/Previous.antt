-- The record of a trip that is the one before some number in key order: the twin of `next_of`.
use Rattle.std.specs.Prelude.{ℕ, ◌+◌, ◌-◌, List, [], ◌∷◌, eqb, ltb, leb, None, Option}
use Rattle.laws.specs.Tests.{pick, both}
use Rattle.file.specs.Format.{Fields}
use Rattle.keys.specs.Keys.{of_trip, third, first_with}

abbrev pub greater : ℕ → ℕ → ℕ
greater a b = pick (leb a b) b a

-- one more than the greatest third number of the trip's records that is below x; 0 if there is none
unfoldable pub previous_number : ℕ → ℕ → ℕ → ℕ → List Fields → ℕ
previous_number file line trip x [] = 0
previous_number file line trip x (r ∷ rs) =
    pick (both (of_trip file line trip r) (ltb (third file r) x))
    (greater (third file r + 1) (previous_number file line trip x rs))
    (previous_number file line trip x rs)

-- the place of the trip's record that is the last in key order with a third number below x
unfoldable pub previous_of : ℕ → ℕ → ℕ → ℕ → List Fields → Option ℕ
previous_of file line trip x rs =
    pick (eqb (previous_number file line trip x rs) 0)
    None
    (first_with file (line ∷ trip ∷ (previous_number file line trip x rs - 1) ∷ []) 0 rs)
