-- The lengths of the thirteen files together.
use Rattle.std.specs.Prelude.{ℕ, zero, suc, ◌+◌, length}
use Rattle.thirteen.specs.Batch.{Batch, file_in}

-- the lengths of `count` files together, from this one on
unfoldable pub lengths_from : Batch → ℕ → ℕ → ℕ
lengths_from b file zero = 0
lengths_from b file (suc count) = length (file_in b file) + lengths_from b (file + 1) count

-- how many bytes the thirteen files have together
unfoldable pub bytes_together : Batch → ℕ
bytes_together b = lengths_from b 1 13
