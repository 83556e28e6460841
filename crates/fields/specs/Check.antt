-- What the check of one file comes back with: its own refusal, or its first 5 or 6. File 1 has neither: it has refusal 4 alone.
use Rattle.std.specs.Prelude.{ℕ, ◌≤◌, ◌≡◌, true, List, [], eqb}
use Rattle.laws.specs.Tests.{pick}
use Rattle.laws.specs.Numbered.{Numbered, answered, refused_at, refused_in}
use Rattle.file.specs.Answers.{asked, numbered}
use Rattle.file.specs.Files.{is_file, fields_of}
use Rattle.file.specs.Records.{records_in}
use Rattle.file.specs.declared.Outcome.{Outcome}
use Rattle.file.specs.declared.Outcome.TheVariants.{Whole, Unfit, CutShort}
use Rattle.field.specs.Stage.{field_fault}
use Rattle.walk.specs.Walk.{LegalFrom}
use Rattle.fields.specs.declared.Checked.{Checked}

-- document 01's number and place for each case
unfoldable pub numbered_checked : Checked → Numbered
numbered_checked Checked.Sound = answered []
numbered_checked (Checked.Refused why) = numbered why
numbered_checked (Checked.Unkind file k f) = refused_in 5 file k f
numbered_checked (Checked.Broken file k) = refused_in 6 file k 0

-- the first fault of a legal file's fields and records
unfoldable pub fault_in : ℕ → List ℕ → Outcome → Numbered
fault_in file s (Whole k) = pick (eqb file 1) (answered []) (field_fault file (records_in (fields_of file) s))
fault_in file s (Unfit at) = refused_at 2 file at
fault_in file s (CutShort at) = refused_at 3 file at

abbrev pub checked_of : ℕ → List ℕ → Numbered
checked_of file s = asked (fault_in file s) file s

-- the promise of the check
abbrev pub CheckedIs : ℕ → List ℕ → Checked → Type 0
CheckedIs file s r = numbered_checked r ≡ checked_of file s

-- what the pass over a file's records asks: s is legal, and n is how many fields a record of this file has
pub record Ready (file n : ℕ) (s : List ℕ) : Type 0 where
  pub file_is : is_file file ≡ true
  pub fields : n ≡ fields_of file
  pub few : n ≤ 13
  pub legal : LegalFrom n s 0
