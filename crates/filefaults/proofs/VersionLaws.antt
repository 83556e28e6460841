-- What the code asks VerzeJDF says of its fault: its reading, its one record, that record's text.
use mathlib.Core.Path.{◌≡◌, refl}
use mathlib.Core.Bool.{true, false}
use mathlib.Core.List.{List, [], ◌∷◌}
use Prim.Native.Nat.{ℕ, ◌≤◌}
use native.Mathlib.Omega.{arith}
use lib.Dec.{eqb}
use lib.Pointwise.{pointwise}
use lib.ListN.{length}
use Rattle.laws.specs.Tests.{either}
use Rattle.laws.specs.Numbered.{answered, refused_in}
use Rattle.file.specs.Format.{Text, Fields}
use Rattle.file.specs.Reading.{reading}
use Rattle.file.specs.declared.Outcome.{Outcome}
use Rattle.file.specs.declared.Outcome.TheVariants.{Whole, Unfit, CutShort}
use Rattle.field.specs.Names.{field}
use Rattle.keys.specs.Keys.{same}
use Rattle.walk.specs.Walk.{LegalFrom}
use Rattle.walk.proofs.WalkLaws.{legal_start}
use Rattle.filefaults.specs.Faults.{outcome_fault, is_version, version_fault}

-- a file whose reading has no fault is legal
pub outcome_whole : (file n : ℕ) (s : List ℕ) → 1 ≤ n → (o : Outcome) → reading n s ≡ o → (outcome_fault file o).number ≡ 0 → LegalFrom n s 0
unfolding outcome_fault
outcome_whole file n s h (Whole k) r e = legal_start n s k (record { some = h; whole = r })
outcome_whole file n s h (Unfit at) r e = absurd (omega arith)
outcome_whole file n s h (CutShort at) r e = absurd (omega arith)

-- VerzeJDF has no record, one, or more
pub version_none : (rs : List Fields) → rs ≡ [] → version_fault rs ≡ refused_in 4 1 0 0
unfolding version_fault
version_none rs e = rw e

pub version_more : (rs : List Fields) (r : Fields) (qs : List Fields) → rs ≡ r ∷ qs → 1 ≤ length qs → version_fault rs ≡ refused_in 4 1 0 0
unfolding version_fault
version_more rs r [] e l = absurd (omega arith)
version_more rs r (q ∷ qs) e l = rw e

module _ (rs : List Fields) (r : Fields) (qs : List Fields) (e : rs ≡ r ∷ qs) (z : qs ≡ []) (t : Text) (f : field 1 r ≡ t) where
  pub version_right : is_version t ≡ true → version_fault rs ≡ answered []
  unfolding version_fault
  version_right h = rw (e, z, f, h)

  pub version_wrong : is_version t ≡ false → version_fault rs ≡ refused_in 4 1 1 1
  unfolding version_fault
  version_wrong h = rw (e, z, f, h)

-- bytes that are compared one by one are the same numbers
pub bytes_same : (s t : Text) → pointwise eqb s t ≡ same s t
unfolding same
bytes_same [] [] = refl
bytes_same [] (b ∷ t) = refl
bytes_same (a ∷ s) [] = refl
bytes_same (a ∷ s) (b ∷ t) = either (eqb a b) (λ p. rw p (bytes_same s t)) (λ p. rw p)
