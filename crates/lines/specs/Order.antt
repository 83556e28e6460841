-- Records by a number that each has, its rank: the first with this rank, the first with at least this rank, and records whose ranks rise.
use Rattle.std.specs.Prelude.{ℕ, ◌+◌, ◌<◌, List, [], ◌∷◌, Bool, true, false, eqb, ltb, leb, length, None, Option, Some}
use Rattle.laws.specs.Tests.{pick}
use Rattle.file.specs.Format.{Fields, written_record}

module _ (rank : Fields → ℕ) where
  -- the place of the first record with rank x, where the first of these stands at `at`
  unfoldable pub first_ranked : ℕ → ℕ → List Fields → Option ℕ
  first_ranked x at [] = None
  first_ranked x at (r ∷ rs) = pick (eqb (rank r) x) (Some at) (first_ranked x (at + length (written_record r)) rs)

  -- the place of the first record whose rank is not below x, or the place behind the last
  unfoldable pub first_from : ℕ → ℕ → List Fields → ℕ
  first_from x at [] = at
  first_from x at (r ∷ rs) = pick (leb x (rank r)) at (first_from x (at + length (written_record r)) rs)

  -- some record has the rank x
  unfoldable pub has_rank : ℕ → List Fields → Bool
  has_rank x [] = false
  has_rank x (r ∷ rs) = pick (eqb (rank r) x) true (has_rank x rs)

  -- every rank is above x
  unfoldable pub Above : ℕ → List Fields → Type 0
  Above x [] = Unit
  Above x (r ∷ rs) = (x < rank r) × Above x rs

  -- every rank is above those before it
  unfoldable pub Rising : List Fields → Type 0
  Rising [] = Unit
  Rising (r ∷ rs) = Above (rank r) rs × Rising rs

  -- the test of it, which compares neighbours
  unfoldable pub rises_after : ℕ → List Fields → Bool
  rises_after x [] = true
  rises_after x (r ∷ rs) = pick (ltb x (rank r)) (rises_after (rank r) rs) false

  unfoldable pub is_rising : List Fields → Bool
  is_rising [] = true
  is_rising (r ∷ rs) = rises_after (rank r) rs
