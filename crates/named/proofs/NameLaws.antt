-- Two texts compared byte by byte, and a stop's name.
use mathlib.Core.Path.{◌≡◌, refl, sym, ◌∙◌}
use mathlib.Core.Bool.{Bool}
use mathlib.Core.List.{List, [], ◌∷◌}
use Prim.Native.Nat.{ℕ, ◌<◌}
use lib.Dec.{eqb}
use lib.ListN.{get_or}
use lib.Pointwise.{pointwise}
use Rattle.laws.specs.Tests.{either}
use Rattle.file.specs.Files.{fields_of, field_counts}
use Rattle.file.specs.Format.{Text}
use Rattle.walk.specs.Walk.{part_of}
use Rattle.walk.proofs.WalkLaws.{cut_text}
use Rattle.keys.specs.Keys.{same}
use Rattle.rules.specs.Texts.{texts}

-- TWO TEXTS are the same exactly if the comparison of their bytes says so.
pub same_bytes : (a b : Text) → same a b ≡ pointwise eqb a b
unfolding same
same_bytes [] [] = refl
same_bytes [] (y ∷ b) = refl
same_bytes (x ∷ a) [] = refl
same_bytes (x ∷ a) (y ∷ b) =
    either (eqb x y)
    (λ t. rw t (same_bytes a b))
    (λ t. rw t)

-- A STOP'S NAME. A text of the record that was cut is compared.
pub part_same : (s places : List ℕ) (i : ℕ) → i < 12 → {t : Text} → t ≡ part_of s places i → (u : Text) {x : Bool} → x ≡ pointwise eqb t u
    → same (get_or (texts 2 s places) i []) u ≡ x
unfolding fields_of field_counts
part_same s places i h e u d = rw (cut_text 12 s places i h _ e) (same_bytes _ u ∙ sym d)
