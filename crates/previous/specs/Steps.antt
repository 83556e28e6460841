-- What the steps of a look back answer.
use Rattle.std.specs.Prelude.{ℕ, ◌+◌, ◌-◌, ◌<◌, ◌≡◌, List, [], ◌∷◌, eqb, get_or, None, Option}
use Rattle.laws.specs.Tests.{pick}
use Rattle.file.specs.Format.{Fields}
use Rattle.lines.specs.Lines.{behind}
use Rattle.keys.specs.Keys.{of_trip, third, first_with}
use Rattle.keys.specs.Ranks.{record_at}

-- the line that ends before `at` starts at r: at 0 or behind an LF
pub record LineBefore (s : List ℕ) (at r : ℕ) : Type 0 where
  pub near : r < at
  pub opens : 0 < r → get_or s (r - 1) 0 ≡ 10
  pub line : behind s r ≡ at

-- one more than the third number of the record at a place, if it is one of the trip's; else 0
unfoldable pub number_at : ℕ → ℕ → ℕ → List ℕ → ℕ → ℕ
number_at file line trip s at = pick (of_trip file line trip (record_at file s at)) (third file (record_at file s at) + 1) 0

-- the first of the trip's records whose third number is one less than y; for 0 there is none
unfoldable pub with_number : ℕ → ℕ → ℕ → ℕ → List Fields → Option ℕ
with_number file line trip y rs = pick (eqb y 0) None (first_with file (line ∷ trip ∷ (y - 1) ∷ []) 0 rs)
