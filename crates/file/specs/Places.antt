-- Where the texts of a list of records stand in its writing, and what it means that the reader gives a list.
use Rattle.std.specs.Prelude.{ℕ, ◌+◌, ◌<◌, ◌≡◌, List, [], ◌∷◌, ◌++◌, false, get_or, length, take, drop}
use Rattle.file.specs.Format.{Text, Fields, written_field, written_record, written}
use Rattle.file.specs.Reading.{Span, reading}
use Rattle.laws.specs.Numbered.{answered}
use Rattle.file.specs.Files.{fields_of}
use Rattle.file.specs.Answers.{span_of, counted_of, stretch_of, text_of}
use Rattle.file.specs.declared.Outcome.TheVariants.{Whole}

-- field f of record r, both from 0
abbrev pub field_at : List Fields → ℕ → ℕ → Text
field_at rs r f = get_or (get_or rs r []) f []

-- the writing of fields after which others follow
unfoldable pub opened : Fields → List ℕ
opened [] = []
opened (t ∷ ts) = written_field false t ++ opened ts

-- all that is written before field f of record r
abbrev pub before : List Fields → ℕ → ℕ → List ℕ
before rs r f = written (take r rs) ++ opened (take f (get_or rs r []))

-- the stretch of its text: behind all that and its opening quote
abbrev pub place_of : List Fields → ℕ → ℕ → Span
place_of rs r f = record { start = length (before rs r f) + 1; size = length (field_at rs r f) }

-- the reader gives the list rs for the bytes s: the count is its length, each record has n fields, and for every r and f the
-- stretch is field f of record r, where it stands
pub record Gives (n : ℕ) (s : List ℕ) (rs : List Fields) : Type 0 where
  pub count : reading n s ≡ Whole (length rs)
  pub shape : (r : ℕ) → r < length rs → length (get_or rs r []) ≡ n
  pub place : (r f : ℕ) → r < length rs → f < n → span_of n s (r + 1) (f + 1) ≡ place_of rs r f
  pub text : (r f : ℕ) → r < length rs → f < n → take (span_of n s (r + 1) (f + 1)).size (drop (span_of n s (r + 1) (f + 1)).start s) ≡ field_at rs r f

-- the same in the words of the public calls, for the file of this number
pub record GivesFile (file : ℕ) (s : List ℕ) (rs : List Fields) : Type 0 where
  pub count : counted_of file s ≡ answered (length rs ∷ [])
  pub shape : (r : ℕ) → r < length rs → length (get_or rs r []) ≡ fields_of file
  pub place : (r f : ℕ) → r < length rs → f < fields_of file → stretch_of file s (r + 1) (f + 1) ≡ answered ((place_of rs r f).start ∷ (place_of rs r f).size ∷ [])
  pub text : (r f : ℕ) → r < length rs → f < fields_of file → text_of file s (r + 1) (f + 1) ≡ field_at rs r f

-- the places of a record's fields, where it starts at `at`
unfoldable pub field_places : ℕ → Fields → List Span
field_places at [] = []
field_places at (t ∷ ts) = record { start = at + 1; size = length t } ∷ field_places (at + length (written_field false t)) ts

-- and of all fields of all records
unfoldable pub places : ℕ → List Fields → List Span
places at [] = []
places at (r ∷ rs) = field_places at r ++ places (at + length (written_record r)) rs
