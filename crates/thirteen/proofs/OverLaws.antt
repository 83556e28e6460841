-- The first fault of the files from one on, up to file 13: what one file says of it.
use mathlib.Core.Path.{◌≡◌}
use mathlib.Core.List.{[]}
use Prim.Native.Nat.{ℕ, zero, suc, ◌+◌, ◌-◌, ◌≤◌, ◌<◌}
use native.Mathlib.Omega.{arith}
use lib.Dec.{eqb}
use borrow.Author.Tests.{eqb-true, eqb-false, eq-eqb, ne_eqb}
use Rattle.laws.specs.Tests.{either}
use Rattle.laws.specs.Numbered.{Numbered, answered}
use Rattle.thirteen.specs.Batch.{over_files}

module _ (fault : ℕ → Numbered) (file : ℕ) where
  -- a file has none: the next one comes
  pub over_next : file < 14 → (fault file).number ≡ 0 → over_files fault file (14 - file) ≡ over_files fault (file + 1) (14 - (file + 1))
  unfolding over_files
  over_next h e =
      let z : 14 - file ≡ suc (14 - (file + 1)) = omega arith in
      rw (z, eq-eqb (fault file).number 0 e)

  -- a file has one
  pub over_stop : file < 14 → ((fault file).number ≡ 0 → ⊥) → over_files fault file (14 - file) ≡ fault file
  unfolding over_files
  over_stop h e =
      let z : 14 - file ≡ suc (14 - (file + 1)) = omega arith in
      rw (z, ne_eqb (fault file).number 0 e)

  -- none are left
  pub over_done : 14 ≤ file → over_files fault file (14 - file) ≡ answered []
  unfolding over_files
  over_done h = let z : 14 - file ≡ 0 = omega arith in rw z

-- where the first fault of several files has number 0, so have the first file's and that of the others
over_turn : (fault : ℕ → Numbered) (file count : ℕ) → (over_files fault file (suc count)).number ≡ 0
    → ((fault file).number ≡ 0) × ((over_files fault (file + 1) count).number ≡ 0)
unfolding over_files
over_turn fault file count e =
    either (eqb (fault file).number 0)
    (λ p. (eqb-true (fault file).number 0 p, rw p at e))
    (λ p. absurd (eqb-false (fault file).number 0 p (rw p at e)))

-- and so has each file's
pub over_each : (fault : ℕ → Numbered) (file count : ℕ) → (over_files fault file count).number ≡ 0 → (i : ℕ) → i < count → (fault (file + i)).number ≡ 0
over_each fault file zero e i l = absurd (omega arith)
over_each fault file (suc count) e zero l = let z : file + 0 ≡ file = omega arith in rw z (over_turn fault file count e).0
over_each fault file (suc count) e (suc i) l =
    let z : file + suc i ≡ file + 1 + i = omega arith in
    rw z (over_each fault (file + 1) count (over_turn fault file count e).1 i (omega arith))
