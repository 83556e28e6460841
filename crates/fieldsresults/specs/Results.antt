-- What C is handed of one file's check: its number and its place.
use Rattle.std.specs.Prelude.{ℕ, ◌≡◌, List}
use Rattle.fields.specs.Check.{checked_of}
use Rattle.checkresults.specs.Results.{fields_result}
use Rattle.checkresults.specs.declared.FieldsResult.{FieldsResult}

-- what the exported call gives: the first fault inside one file
abbrev pub FieldsGives : ℕ → List ℕ → FieldsResult → Type 0
FieldsGives file s r = r ≡ fields_result (checked_of file s)
