-- What a file that was checked for itself says of its records: no field of any of them is of another kind than its own.
use mathlib.Core.Path.{◌≡◌, ap}
use mathlib.Core.List.{List, [], ◌∷◌}
use Prim.Native.Nat.{ℕ, ◌+◌}
use native.Mathlib.Omega.{arith}
use lib.Dec.{eqb}
use borrow.Author.Tests.{eqb-true}
use Rattle.laws.specs.Tests.{either}
use Rattle.laws.specs.Numbered.{Numbered, answered, refused_in}
use Rattle.file.specs.Format.{Fields}
use Rattle.field.specs.Rules.{meets}
use Rattle.field.specs.Stage.{first_unkind, record_fault, faults_from}
use Rattle.thirteen.specs.Batch.{Batch, file_in, records_of}
use Rattle.amiss.specs.Sound.{SoundFile, AllOfKind, OfKind}

-- a refusal is no answer
no_answer : {P : Type 0} (n file k f : ℕ) → refused_in (1 + n) file k f ≡ answered [] → P
no_answer n file k f e = let z : 1 + n ≡ 0 = ap (λ (x : Numbered). x.number) e in absurd (omega arith)

-- where no fault is found from record k on, all these records are of their kinds
no_fault_kinds : (file k : ℕ) (rs : List Fields) → faults_from file k rs ≡ answered [] → AllOfKind file rs
unfolding faults_from record_fault AllOfKind
no_fault_kinds file k [] e = tt
no_fault_kinds file k (r ∷ rs) e =
    either (eqb (first_unkind file 1 r) 0)
    (λ p. either (meets file r)
    (λ q. (eqb-true (first_unkind file 1 r) 0 p, no_fault_kinds file (k + 1) rs (rw (p, q) at e)))
    (λ q. no_answer 5 file k 0 (rw (p, q) at e)))
    (λ p. no_answer 4 file k (first_unkind file 1 r) (rw p at e))

-- the records of a sound file are of their kinds
pub sound_kinds : (b : Batch) (file : ℕ) → SoundFile b file → OfKind file (file_in b file)
sound_kinds b file s = no_fault_kinds file 1 (records_of b file) s.fields
