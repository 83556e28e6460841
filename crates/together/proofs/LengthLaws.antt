-- The lengths of the files together, file by file: what is left of 61,440 behind each, and where it is not enough.
use mathlib.Core.Path.{◌≡◌, ap}
use mathlib.Core.Bool.{true, false}
use mathlib.Core.List.{List}
use Prim.Native.Nat.{ℕ, suc, ◌+◌, ◌-◌, ◌≤◌, ◌<◌}
use native.Mathlib.Omega.{arith}
use borrow.Author.Tests.{le-leb, lt-leb}
use lib.Dec.{leb}
use lib.ListN.{length}
use Rattle.thirteen.specs.Batch.{Batch, file_in}
use Rattle.together.specs.Lengths.{lengths_from, bytes_together}

-- one file and the others
lengths_next : (b : Batch) (file : ℕ) → file < 14 → lengths_from b file (14 - file) ≡ length (file_in b file) + lengths_from b (file + 1) (14 - (file + 1))
unfolding lengths_from
lengths_next b file h =
    let z : 14 - file ≡ suc (14 - (file + 1)) = omega arith in
    rw z

-- none are left
lengths_done : (b : Batch) (file : ℕ) → 14 ≤ file → lengths_from b file (14 - file) ≡ 0
unfolding lengths_from
lengths_done b file h =
    let z : 14 - file ≡ 0 = omega arith in
    rw z

-- `left` and the files before this one make 61,440
abbrev pub Left : Batch → ℕ → ℕ → Type 0
Left b file left = bytes_together b + left ≡ 61440 + lengths_from b file (14 - file)

pub left_start : (b : Batch) → Left b 1 61440
unfolding bytes_together
left_start b = omega arith

module _ (b : Batch) (file left : ℕ) (l : Left b file left) where
  -- a file that is longer: there are too many
  pub left_short : (s : List ℕ) → s ≡ file_in b file → file < 14 → left < length s → false ≡ leb (bytes_together b) 61440
  left_short s e h k =
      let n : length s ≡ length (file_in b file) = ap length e in
      let m : 61440 < bytes_together b = omega (arith, lengths_next b file h) in
      rw (lt-leb (bytes_together b) 61440 m)

  -- one that isn't leaves the rest
  pub left_next : (s : List ℕ) → s ≡ file_in b file → file < 14 → length s ≤ left → Left b (file + 1) (left - length s)
  left_next s e h k =
      let n : length s ≡ length (file_in b file) = ap length e in
      omega (arith, lengths_next b file h)

  -- none are left: there are few enough
  pub left_done : 14 ≤ file → true ≡ leb (bytes_together b) 61440
  left_done h =
      let m : bytes_together b ≤ 61440 = omega (arith, lengths_done b file h) in
      rw (le-leb (bytes_together b) 61440 m)
