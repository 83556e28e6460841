-- What C is handed of a file call's answer: its number, its place, and its values in order, 0 where there is none.
use Rattle.std.specs.Prelude.{ℕ, ◌≡◌, List, get_or, length}
use Rattle.laws.specs.Numbered.{Numbered}
use Rattle.file.specs.Answers.{counted_of, stretch_of}
use Rattle.file.specs.Format.{Text}
use Rattle.file.specs.Writing.{written_of, buffer_of}
use Rattle.fileresults.specs.declared.Place.{Place}
use Rattle.fileresults.specs.declared.RecordsResult.{RecordsResult}
use Rattle.fileresults.specs.declared.StretchResult.{StretchResult}
use Rattle.fileresults.specs.declared.WriteResult.{WriteResult}

-- value i of an answer
abbrev pub value : Numbered → ℕ → ℕ
value a i = get_or a.values i 0

-- the number and the place in a file of a refusal
unfoldable pub refused_place : Numbered → Place
refused_place a = record { number = a.number; file = a.in_file; offset = a.at_offset }

unfoldable pub records_result : Numbered → RecordsResult
records_result a =
    record { number = a.number; file = a.in_file; «record» = a.in_record; field = a.in_field; offset = a.at_offset; records = value a 0 }

unfoldable pub stretch_result : Numbered → StretchResult
stretch_result a =
    record {
      number = a.number;
      file = a.in_file;
      «record» = a.in_record;
      field = a.in_field;
      offset = a.at_offset;
      start = value a 0;
      length = value a 1;
    }

unfoldable pub write_result : Numbered → WriteResult
write_result a = record { number = a.number; place = value a 0 }

-- what each exported call gives: the number of a file's records
abbrev pub RecordsGives : ℕ → List ℕ → RecordsResult → Type 0
RecordsGives file s r = r ≡ records_result (counted_of file s)

-- where a field of a record stands
abbrev pub StretchGives : ℕ → List ℕ → ℕ → ℕ → StretchResult → Type 0
StretchGives file s row f r = r ≡ stretch_result (stretch_of file s row f)

-- the result of writing one field, and what the buffer then holds
abbrev pub WriteGives : ℕ → ℕ → Text → List ℕ → ℕ → WriteResult × List ℕ → Type 0
WriteGives file f t d place r = (r.0 ≡ write_result (written_of file f t (length d) place)) × (r.1 ≡ buffer_of file f t d place)
