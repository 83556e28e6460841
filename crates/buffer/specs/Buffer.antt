-- The buffer of the check program: one file behind the other, `ends` with the place after each. The file before the first has none.
use Rattle.std.specs.Prelude.{List, ℕ, ◌+◌, ◌-◌, ◌≤◌, ◌<◌, get_or, take, drop}
use Rattle.thirteen.specs.Batch.{Batch, thirteen}

-- the first `count` files stand in the buffer, one behind the other
abbrev pub Stand : ℕ → ℕ → List ℕ → Type 0
Stand count size ends = (k : ℕ) → k < count → (get_or ends k 0 ≤ get_or ends (k + 1) 0) × (get_or ends (k + 1) 0 ≤ size)

-- the bytes of a file
abbrev pub part_of : List ℕ → List ℕ → ℕ → List ℕ
part_of buf ends file = take (get_or ends file 0 - get_or ends (file - 1) 0) (drop (get_or ends (file - 1) 0) buf)

-- the thirteen files
abbrev pub parts_of : List ℕ → List ℕ → Batch
parts_of buf ends =
    thirteen
    (part_of buf ends 1)
    (part_of buf ends 2)
    (part_of buf ends 3)
    (part_of buf ends 4)
    (part_of buf ends 5)
    (part_of buf ends 6)
    (part_of buf ends 7)
    (part_of buf ends 8)
    (part_of buf ends 9)
    (part_of buf ends 10)
    (part_of buf ends 11)
    (part_of buf ends 12)
    (part_of buf ends 13)
