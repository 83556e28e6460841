-- A list of places as an index of a file: it names where each record starts, by the records' ranks, and those of one rank by place.
use Rattle.std.specs.Prelude.{ℕ, ◌+◌, ◌*◌, ◌^◌, ◌<◌, ◌≡◌, ◌⊎◌, List, [], ◌∷◌, length, get_or, drop}
use Rattle.file.specs.Format.{Fields, written_record}
use Rattle.file.specs.Records.{records_in}
use Rattle.lines.specs.Lines.{Place}

-- x stands in the list
unfoldable pub In : ℕ → List ℕ → Type 0
In x [] = ⊥
In x (y ∷ ys) = (x ≡ y) ⊎ In x ys

-- where records start, the first of them at `at`
unfoldable pub starts_from : ℕ → List Fields → List ℕ
starts_from at [] = []
starts_from at (r ∷ rs) = at ∷ starts_from (at + length (written_record r)) rs

module _ (n : ℕ) (rank : Fields → ℕ) where
  abbrev pub starts : List ℕ → List ℕ
  starts s = starts_from 0 (records_in n s)

  -- the rank of the record that starts at x
  abbrev pub rank_at : List ℕ → ℕ → ℕ
  rank_at s x = rank (get_or (records_in n (drop x s)) 0 [])

  -- by rank, and those of one rank by place: places are below 2 ^ 32
  abbrev pub order_at : List ℕ → ℕ → ℕ
  order_at s x = rank_at s x * 2 ^ 32 + x

  -- a record of s starts at x
  pub record Start (s : List ℕ) (x : ℕ) : Type 0 where
    pub within : x < length s
    pub small : x < 2 ^ 32
    pub place : Place n s x
    pub known : In x (starts s)

  -- entry i of an index is right: a record starts there, and it goes after that of the entry before
  pub record Good (s order : List ℕ) (i : ℕ) : Type 0 where
    pub start : Start s (get_or order i 0)
    pub above : (j : ℕ) → j + 1 ≡ i → order_at s (get_or order j 0) < order_at s (get_or order i 0)

  -- each entry is where a record starts, they go in order, and no record is missing
  pub record Index (s order : List ℕ) : Type 0 where
    pub start : (i : ℕ) → i < length order → Start s (get_or order i 0)
    pub rises : (i j : ℕ) → i < j → j < length order → order_at s (get_or order i 0) < order_at s (get_or order j 0)
    pub covers : (x : ℕ) → In x (starts s) → (i : ℕ) × (i < length order) × (get_or order i 0 ≡ x)
