-- Laws of the first fault of a file: what one field, or one record, says of those that are left.
use mathlib.Core.Path.{◌≡◌}
use mathlib.Core.Bool.{Bool, true, false}
use mathlib.Core.List.{List, [], ◌∷◌}
use Prim.Native.Nat.{ℕ, ◌+◌, ◌≤◌}
use native.Mathlib.Omega.{arith}
use lib.Dec.{leb, leb→le}
use borrow.Author.Tests.{eq-eqb, ne_eqb, leb-true}
use Rattle.laws.specs.Below.{below}
use Rattle.laws.specs.Tests.{both_right}
use Rattle.laws.specs.Numbered.{answered, refused_in}
use Rattle.file.specs.Files.{is_file, field_counts, fields_of}
use Rattle.file.specs.Format.{Text, Fields}
use Rattle.file.specs.Reading.{reading}
use Rattle.file.specs.declared.Outcome.TheVariants.{Whole}
use Rattle.file.proofs.AnswerLaws.{file_fields}
use Rattle.walk.proofs.WalkLaws.{legal_start}
use Rattle.fields.specs.Check.{Ready}
use Rattle.field.specs.Kinds.{kind_of, admits}
use Rattle.field.specs.Rules.{meets}
use Rattle.field.specs.Stage.{first_unkind, record_fault, faults_from}

module _ (file f : ℕ) (t : Text) (ts qs : Fields) (e : qs ≡ t ∷ ts) where
  pub unkind_turn : admits (kind_of file f) t ≡ true → first_unkind file f qs ≡ first_unkind file (f + 1) ts
  unfolding first_unkind
  unkind_turn h = rw (e, h)

  pub unkind_hit : admits (kind_of file f) t ≡ false → first_unkind file f qs ≡ f
  unfolding first_unkind
  unkind_hit h = rw (e, h)

pub unkind_done : (file f : ℕ) (qs : Fields) → qs ≡ [] → first_unkind file f qs ≡ 0
unfolding first_unkind
unkind_done file f qs e = rw e

module _ (file k : ℕ) (r : Fields) (rs qs : List Fields) (e : qs ≡ r ∷ rs) where
  pub fault_field : (f : ℕ) → f ≡ first_unkind file 1 r → (f ≡ 0 → ⊥) → faults_from file k qs ≡ refused_in 5 file k f
  unfolding faults_from record_fault
  fault_field f g h = rw (e, ← g, ne_eqb f 0 h)

  pub fault_rule : (f : ℕ) → f ≡ first_unkind file 1 r → f ≡ 0 → meets file r ≡ false → faults_from file k qs ≡ refused_in 6 file k 0
  unfolding faults_from record_fault
  fault_rule f g h m = rw (e, ← g, eq-eqb f 0 h, m)

  pub fault_none : (f : ℕ) → f ≡ first_unkind file 1 r → f ≡ 0 → meets file r ≡ true → faults_from file k qs ≡ faults_from file (k + 1) rs
  unfolding faults_from record_fault
  fault_none f g h m = rw (e, ← g, eq-eqb f 0 h, m)

pub fault_done : (file k : ℕ) (qs : List Fields) → qs ≡ [] → faults_from file k qs ≡ answered []
unfolding faults_from
fault_done file k qs e = rw e

-- no file has more than thirteen fields in a record
few : ℕ → Bool
few k = leb (fields_of k) 13

pub fields_few : (file : ℕ) → is_file file ≡ true → fields_of file ≤ 13
unfolding few fields_of field_counts
fields_few file h =
    let b = leb-true file 13 (both_right (leb 1 file) (leb file 13) h) in
    leb→le (fields_of file) 13 (below 14 few tt file (omega arith))

-- a legal file is ready for the pass over its records
pub ready : (file n : ℕ) (s : List ℕ) (k : ℕ) → n ≡ fields_of file → is_file file ≡ true → reading (fields_of file) s ≡ Whole k → Ready file n s
ready file n s k e f w =
    record {
      file_is = f;
      fields = e;
      few = rw e (fields_few file f);
      legal = rw e (legal_start (fields_of file) s k (record { some = file_fields file f; whole = w }));
    }
