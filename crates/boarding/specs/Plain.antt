-- The answer of what the code knows of two stops.
use Rattle.std.specs.Prelude.{ℕ, ◌%◌, Bool, not, [], ◌∷◌, eqb, ltb}
use Rattle.laws.specs.Tests.{pick, both, one_of}
use Rattle.laws.specs.Numbered.{Numbered, answered, refused}
use Rattle.boarding.specs.declared.Served.{Served}

-- a smaller tariff number is passed first by an odd trip, a greater one by an even
unfoldable pub passed_first : ℕ → ℕ → ℕ → Bool
passed_first trip a b = pick (eqb (trip % 2) 1) (ltb a b) (ltb b a)

-- 18 and 19 and the answer, then with 17
unfoldable pub left_of : Served → Served → Numbered
left_of first second =
    pick (one_of (not (one_of second.arrives second.departs)) second.no_leaving) (refused 18)
    (pick (both first.section second.section) (refused 19)
    (answered (first.departure ∷ pick second.arrives second.arrival second.departure ∷ [])))

unfoldable pub sold_of : Served → Served → Numbered
sold_of first second = pick (one_of (not first.departs) first.no_boarding) (refused 17) (left_of first second)
