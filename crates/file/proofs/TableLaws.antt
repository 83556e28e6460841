-- The class table of the source holds the class of each byte. The list is made from the definition, and the checker computes it where
-- a function's table is held against it, so the table itself stands in the source alone.
use mathlib.Core.Path.{◌≡◌, ap, ◌∙◌}
use mathlib.Core.List.{List, [], ◌∷◌}
use Prim.Native.Nat.{ℕ, zero, suc, ◌+◌, ◌<◌}
use native.Mathlib.Omega.{arith}
use lib.ListN.{get_or}
use Rattle.file.specs.Bytes.{class_of}

-- the classes of the n bytes from b on
abbrev pub classes_from : ℕ → ℕ → List ℕ
classes_from zero b = []
classes_from (suc n) b = class_of b ∷ classes_from n (suc b)

class_at : (n b k : ℕ) → k < n → get_or (classes_from n b) k 0 ≡ class_of (b + k)
class_at zero b k h = absurd (omega arith)
class_at (suc n) b zero h = let e : b ≡ b + 0 = omega arith in ap class_of e
class_at (suc n) b (suc k) h =
    let e : suc b + k ≡ b + suc k = omega arith in
    class_at n (suc b) k (omega arith) ∙ ap class_of e

-- a function that reads `CLASS` cites it unfolding class_of plain permitted_byte undefined
pub classes : (b : ℕ) → b < 256 → get_or (classes_from 256 0) b 0 ≡ class_of b
classes b h = let e : 0 + b ≡ b = omega arith in class_at 256 0 b h ∙ ap class_of e
