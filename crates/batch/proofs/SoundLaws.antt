-- Legal files in which 5 and 6 find nothing are sound.
use mathlib.Core.Path.{◌≡◌, refl}
use mathlib.Core.List.{List, [], ◌∷◌}
use Prim.Native.Nat.{ℕ, ◌+◌, ◌-◌}
use native.Mathlib.Omega.{arith}
use lib.Dec.{eqb}
use Rattle.laws.specs.Tests.{either}
use Rattle.laws.specs.Numbered.{answered}
use Rattle.file.specs.Format.{Fields}
use Rattle.field.specs.Rules.{meets}
use Rattle.field.specs.Stage.{first_unkind, record_fault, faults_from, field_fault}
use Rattle.amiss.specs.Sound.{SoundFiles}
use Rattle.thirteen.specs.Batch.{Batch, records_of, over_files}
use Rattle.thirteen.proofs.OverLaws.{over_each}
use Rattle.overfiles.specs.Legal.{LegalFiles}

-- no fault of a file's records but `answered []` has number 0
faults_settled : (file k : ℕ) (rs : List Fields) → (faults_from file k rs).number ≡ 0 → faults_from file k rs ≡ answered []
unfolding faults_from record_fault
faults_settled file k [] e = refl
faults_settled file k (r ∷ rs) e =
    either (eqb (first_unkind file 1 r) 0)
    (λ p.
    either (meets file r)
    (λ q. rw (p, q) (faults_settled file (k + 1) rs (rw (p, q) at e)))
    (λ q. let z = rw (p, q) at e in absurd (omega arith)))
    (λ p. let z = rw p at e in absurd (omega arith))

-- legal files in whose fields and records nothing is found are sound
pub sound_files : (b : Batch) → LegalFiles b → (over_files (λ file. field_fault file (records_of b file)) 2 12).number ≡ 0 → SoundFiles b
sound_files b legal e file h l =
    let z : 2 + (file - 2) ≡ file = omega arith in
    record {
      legal = legal file (omega arith) l;
      fields = faults_settled file 1 (records_of b file) (rw z at (over_each (λ file. field_fault file (records_of b file)) 2 12 e (file - 2) (omega arith)));
    }
