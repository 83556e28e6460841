-- What the code asks a file says of its fault: its length, its reading, its fields; whether it is the first; and which files are legal then.
use mathlib.Core.Path.{◌≡◌, refl, sym, ◌∙◌}
use mathlib.Core.Bool.{Bool, true, false, not}
use mathlib.Core.List.{List, []}
use Prim.Native.Nat.{ℕ, ◌+◌, ◌-◌, ◌≤◌, ◌<◌}
use native.Mathlib.Omega.{arith}
use lib.Dec.{eqb, leb}
use lib.ListN.{length}
use borrow.Author.Tests.{le-leb, lt-leb, leb-true}
use Rattle.laws.specs.Tests.{both_true, either}
use Rattle.laws.specs.Numbered.{Numbered, answered, refused_at}
use Rattle.file.specs.Files.{is_file, fields_of, longest}
use Rattle.file.specs.Reading.{reading}
use Rattle.file.specs.Records.{records_in}
use Rattle.file.specs.declared.Outcome.{Outcome}
use Rattle.file.proofs.AnswerLaws.{file_fields}
use Rattle.field.specs.Stage.{field_fault}
use Rattle.fields.specs.Check.{Ready, numbered_checked}
use Rattle.fields.specs.declared.Checked.{Checked}
use Rattle.fields.proofs.StageLaws.{fields_few}
use Rattle.thirteen.specs.Batch.{Batch, file_in, records_of, over_files}
use Rattle.thirteen.proofs.OverLaws.{over_next, over_stop, over_each}
use Rattle.fault.specs.Answers.{numbered_fault}
use Rattle.fault.specs.declared.Fault.{Fault}
use Rattle.fault.proofs.FaultLaws.{is_some, is_zero}
use Rattle.filefaults.specs.Faults.{outcome_fault}
use Rattle.filefaults.proofs.VersionLaws.{outcome_whole}
use Rattle.overfiles.specs.Legal.{LegalFiles}
use Rattle.overfiles.specs.OneFile.{length_fault, bytes_fault}

-- the numbers 1 to 13 are those of files
pub is_file_lem : (file : ℕ) → 1 ≤ file → file ≤ 13 → is_file file ≡ true
is_file_lem file h l = both_true (leb 1 file) (leb file 13) (le-leb 1 file h) (le-leb file 13 l)

pub some_fields : (file : ℕ) → 1 ≤ file → file ≤ 13 → 1 ≤ fields_of file
some_fields file h l = file_fields file (is_file_lem file h l)

-- a file's fault
abbrev pub fault_in : Batch → ℕ → Numbered
fault_in b = λ file. field_fault file (records_of b file)

-- the file that was chosen by its number
module _ (b : Batch) (file : ℕ) (s : List ℕ) (e : s ≡ file_in b file) where
  -- it is too long, or not
  pub too_long : longest < length s → length_fault b file ≡ refused_at 1 file 0
  unfolding length_fault
  too_long h = rw (← e, lt-leb (length s) longest h)

  pub short_enough : length s ≤ longest → length_fault b file ≡ answered []
  unfolding length_fault
  short_enough h = rw (← e, le-leb (length s) longest h)

  module _ (n : ℕ) (z : n ≡ fields_of file) where
    -- what its reading came to
    pub read_fault : (f : Fault) (o : Outcome) → numbered_fault f ≡ outcome_fault file o → o ≡ reading n s → numbered_fault f ≡ bytes_fault b file
    unfolding bytes_fault
    read_fault f o p q = rw (q, z, e) at p

    -- what its fields came to
    pub sound_fault : (f : Fault) (c : Checked) → numbered_fault f ≡ numbered_checked c → numbered_checked c ≡ field_fault file (records_in n s) → numbered_fault f ≡ field_fault file (records_of b file)
    sound_fault f c p q = p ∙ rw (z, e) at q

    -- where the files are legal, it is ready for the pass over its records
    pub ready_file : LegalFiles b → 1 ≤ file → file ≤ 13 → Ready file n s
    ready_file legal h l =
        record {
          file_is = is_file_lem file h l;
          fields = z;
          few = rw z (fields_few file (is_file_lem file h l));
          legal = rw (z, e) (legal file h l);
        }

-- the test of a file's fault: it is the first of those from its file on, or the next file's counts
module _ (f : Fault) (r : Bool) (t : r ≡ eqb (numbered_fault f).number 0) (fault : ℕ → Numbered) (file : ℕ) (l : file < 14) (e : numbered_fault f ≡ fault file) where
  pub files_stop : not r ≡ true → numbered_fault f ≡ over_files fault file (14 - file)
  files_stop h = e ∙ sym (over_stop fault file l (λ z. is_some f r t h (rw e z)))

  pub files_next : not r ≡ false → over_files fault file (14 - file) ≡ over_files fault (file + 1) (14 - (file + 1))
  files_next h = over_next fault file l (rw e at (is_zero f r t h))

-- a file with no fault of its length isn't too long
pub not_long : (b : Batch) (file : ℕ) → (length_fault b file).number ≡ 0 → length (file_in b file) ≤ longest
unfolding length_fault
not_long b file e =
    either (leb (length (file_in b file)) longest)
    (λ t. leb-true (length (file_in b file)) longest t)
    (λ t. let z = rw t at e in absurd (omega arith))

-- where no reading has a fault, all thirteen are legal
pub legal_files : (b : Batch) → (over_files (bytes_fault b) 1 13).number ≡ 0 → LegalFiles b
unfolding bytes_fault
legal_files b e file h l =
    let z : 1 + (file - 1) ≡ file = omega arith in
    outcome_whole file (fields_of file) (file_in b file) (some_fields file h l) _ refl (rw z at (over_each (bytes_fault b) 1 13 e (file - 1) (omega arith)))
