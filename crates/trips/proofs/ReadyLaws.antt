-- What is asked of a file of a batch is known once its files stand each for itself, no two records of it have one key, and the ways were made out.
use mathlib.Core.Path.{◌≡◌, ap}
use mathlib.Core.List.{List, [], ◌∷◌}
use Prim.Native.Nat.{ℕ, ◌+◌, ◌≤◌}
use native.Mathlib.Omega.{arith}
use lib.Dec.{eqb}
use lib.ListN.{length}
use Rattle.laws.specs.Tests.{either}
use Rattle.laws.specs.Numbered.{Numbered, answered, refused_in}
use Rattle.file.specs.Format.{Fields}
use Rattle.field.specs.Rules.{meets}
use Rattle.field.specs.Stage.{first_unkind, record_fault, faults_from}
use Rattle.keys.specs.Ranks.{IsKeyed}
use Rattle.link.specs.Met.{Distinct}
use Rattle.lookup.specs.Ways.{Ways}
use Rattle.thirteen.specs.Batch.{Batch, file_in, records_of}
use Rattle.amiss.specs.Sound.{SoundFile, SoundFiles}
use Rattle.amiss.proofs.SoundLaws.{sound_kinds}
use Rattle.links.proofs.KeyedLaws.{sound_key}
use Rattle.coded.specs.Ready.{Ready}
use Rattle.trail.proofs.TrailLaws.{once_distinct}
use Rattle.codes.specs.Seen.{AllMeet}

-- a refusal is no answer
no_answer : {P : Type 0} (n file k f : ℕ) → refused_in (1 + n) file k f ≡ answered [] → P
no_answer n file k f e = let z : 1 + n ≡ 0 = ap (λ (x : Numbered). x.number) e in absurd (omega arith)

-- where no fault is found from record k on, all these records meet their rules
no_fault_meets : (file k : ℕ) (rs : List Fields) → faults_from file k rs ≡ answered [] → AllMeet file rs
unfolding faults_from record_fault AllMeet
no_fault_meets file k [] e = tt
no_fault_meets file k (r ∷ rs) e =
    either (eqb (first_unkind file 1 r) 0)
    (λ p. either (meets file r)
    (λ q. (q, no_fault_meets file (k + 1) rs (rw (p, q) at e)))
    (λ q. no_answer 5 file k 0 (rw (p, q) at e)))
    (λ p. no_answer 4 file k (first_unkind file 1 r) (rw p at e))

-- of one file
pub ready_file : (b : Batch) (file : ℕ) (order ways : List ℕ) → IsKeyed file → SoundFiles b → Distinct b file → Ways b order ways → 33 ≤ length ways
    → Ready file (file_in b file) order ways
ready_file b file order ways k s d w h =
    let here : SoundFile b file = s file k.0 (omega (arith, k.1)) in
    record {
      key = sound_key b file k here;
      kinds = sound_kinds b file here;
      rules = no_fault_meets file 1 (records_of b file) here.fields;
      once = once_distinct b file d;
      size = h;
      way = w file k;
    }
