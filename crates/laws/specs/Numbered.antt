-- What a call comes back with, as document 01 numbers it. Each answer's enum has one definition that gives this for each of its cases.
use Rattle.std.specs.Prelude.{ℕ, List, []}

-- `number` is 0 for an answer, else the refusal's; the place is 0 where none is listed; `values` are the answer's own, and how many with 24
pub record Numbered : Type 0 where
  pub number : ℕ
  pub in_file : ℕ
  pub in_record : ℕ
  pub in_field : ℕ
  pub at_offset : ℕ
  pub values : List ℕ

abbrev pub answered : List ℕ → Numbered
answered vs = record { number = 0; in_file = 0; in_record = 0; in_field = 0; at_offset = 0; values = vs }

-- a refusal with no place
abbrev pub refused : ℕ → Numbered
refused n = record { number = n; in_file = 0; in_record = 0; in_field = 0; at_offset = 0; values = [] }

-- a refusal whose place is an offset in a file, or the file alone where the offset is 0 and says nothing
abbrev pub refused_at : ℕ → ℕ → ℕ → Numbered
refused_at n file offset = record { number = n; in_file = file; in_record = 0; in_field = 0; at_offset = offset; values = [] }

-- a refusal whose place is a field of a record, a whole record where the field is 0, or the file alone where the record is 0 too
abbrev pub refused_in : ℕ → ℕ → ℕ → ℕ → Numbered
refused_in n file rec field = record { number = n; in_file = file; in_record = rec; in_field = field; at_offset = 0; values = [] }
