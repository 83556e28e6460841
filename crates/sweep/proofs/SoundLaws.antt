-- A file is sound from a record on if the record was read, has no fault, and the file is sound behind it.
use mathlib.Core.Path.{◌≡◌, refl, sym, ap, ◌∙◌, subst}
use mathlib.Core.Bool.{Bool, true}
use mathlib.Core.List.{List, ◌∷◌, ◌++◌}
use Prim.Native.Nat.{ℕ, ◌+◌, ◌≤◌}
use lib.Dec.{leb}
use lib.ListN.{length, drop, drop_of_length-le}
use borrow.Author.Tests.{le-leb}
use Rattle.std.specs.Prelude.{Option, IfSome}
use Rattle.laws.specs.Tests.{both_true}
use Rattle.file.specs.Files.{is_file, fields_of}
use Rattle.file.specs.Format.{Fields, written_record, written, Permitted}
use Rattle.file.specs.Reading.{run, outcome_in}
use Rattle.file.specs.Records.{records_in}
use Rattle.file.proofs.AnswerLaws.{file_fields}
use Rattle.file.proofs.PlaceLaws.{read_count}
use Rattle.file.proofs.RecordLaws.{written_records, legible}
use Rattle.field.specs.Rules.{meets}
use Rattle.field.specs.Stage.{first_unkind}
use Rattle.fields.proofs.StageLaws.{fields_few, fault_none, fault_done}
use Rattle.rules.specs.Texts.{Kinded}
use Rattle.walk.specs.Walk.{Parted, cut_record}
use Rattle.walk.proofs.WalkLaws.{cut_size, none_left}
use Rattle.readany.specs.Reads.{ReadTo}
use Rattle.readany.proofs.PlaceLaws.{found_as}
use Rattle.sweep.specs.Sweep.{Fielded, SoundFrom}

-- a file of this number has so many fields
pub fielded : (file n : ℕ) → n ≡ fields_of file → 1 ≤ file → file ≤ 13 → Fielded file n
fielded file n e h l =
    let f : is_file file ≡ true = both_true (leb 1 file) (leb file 13) (le-leb 1 file h) (le-leb file 13 l) in
    record { file_is = f; fields = e; few = rw e (fields_few file f) }

-- a record of every file has a field
pub some_fields : (file n : ℕ) → Fielded file n → 1 ≤ n
some_fields file n h = rw h.fields (file_fields file h.file_is)

-- a record that was read as one of file k with m fields, where that is the file
pub read_by : {file k n m : ℕ} (s : List ℕ) (start : ℕ) (places : List ℕ) (found : Option ℕ) → Fielded file n → file ≡ k → fields_of k ≡ m
    → IfSome found (λ next. ReadTo k m s start places next) → IfSome found (λ next. ReadTo file n s start places next)
read_by s start places found h e f r = found_as s start places found e (h.fields ∙ ap fields_of e ∙ f) r

-- where no bytes are left, nothing is wrong
pub sound_end : (file n : ℕ) (s : List ℕ) (at : ℕ) → Fielded file n → length s ≤ at → SoundFrom file n s at
unfolding run outcome_in
sound_end file n s at h l =
    record {
      legal = record { count = 0; reads = record { some = some_fields file n h; whole = rw (drop_of_length-le s l) } };
      fits = λ k. fault_done file k _ (none_left n s at l);
    }

-- a record that was read stands before the others
module _ (file n : ℕ) (s : List ℕ) (at : ℕ) (places : List ℕ) (next : ℕ) (h : Fielded file n) (r : ReadTo file n s at places next) where
  abbrev first : Fields
  first = cut_record n s places

  abbrev others : List Fields
  others = records_in n (drop next s)

  -- its rules may be asked, and what they say
  pub kinded : Kinded file s places
  kinded =
      record {
        parted = subst (λ (m : ℕ). Parted m s places) h.fields r.parted;
        kinds = subst (λ (m : ℕ). first_unkind file 1 (cut_record m s places) ≡ 0) h.fields r.kinds;
      }

  pub meeting : (b : Bool) → b ≡ meets file (cut_record (fields_of file) s places) → b ≡ meets file first
  meeting b e = e ∙ ap (λ (m : ℕ). meets file (cut_record m s places)) (sym h.fields)

  module _ (w : SoundFrom file n s next) where
    some : 1 ≤ n
    some = some_fields file n h

    bytes : drop at s ≡ written (first ∷ others)
    unfolding written
    bytes = r.bytes ∙ ap (λ (x : List ℕ). written_record first ++ x) (sym (legible n (drop next s) w.legal.count w.legal.reads).bytes)

    permitted : Permitted n (first ∷ others)
    unfolding Permitted
    permitted = ((cut_size n s places, r.texts), (legible n (drop next s) w.legal.count w.legal.reads).permitted)

    pub records : records_in n (drop at s) ≡ first ∷ others
    records = rw bytes (written_records n some (first ∷ others) permitted)

    pub sound_step : meets file first ≡ true → SoundFrom file n s at
    sound_step m =
        record {
          legal = record { count = length (first ∷ others); reads = record { some = some; whole = rw bytes (read_count n some (first ∷ others) permitted) } };
          fits = λ i. fault_none file i first others _ records 0 (sym r.kinds) refl m ∙ w.fits (i + 1);
        }
