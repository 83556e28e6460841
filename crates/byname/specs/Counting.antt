-- The answer as the code goes about it: how many stops of the name have been seen, and the number of the first.
use Rattle.std.specs.Prelude.{ℕ, ◌+◌, List, [], ◌∷◌, eqb}
use Rattle.laws.specs.Tests.{pick}
use Rattle.laws.specs.Numbered.{Numbered, answered, refused}
use Rattle.file.specs.Format.{Text, Fields}
use Rattle.link.specs.Met.{number}
use Rattle.named.specs.Names.{is_named, several}

-- where `found` have been seen, the first of them with this number
unfoldable pub settled_by : ℕ → ℕ → Numbered
settled_by found first = pick (eqb found 0) (refused 23) (pick (eqb found 1) (answered (first ∷ [])) (several found))

-- with these records still to come
unfoldable pub count_on : Text → Text → Text → ℕ → ℕ → List Fields → Numbered
count_on town part place found first [] = settled_by found first
count_on town part place found first (r ∷ rs) =
    pick (is_named town part place r)
    (count_on town part place (found + 1) (pick (eqb found 0) (number 1 r) first) rs)
    (count_on town part place found first rs)
