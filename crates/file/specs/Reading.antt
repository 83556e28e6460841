-- The reading of a file whose records have n fields: a fold of one step over its bytes.
use Rattle.std.specs.Prelude.{ℕ, ◌+◌, ◌-◌, List, [], ◌∷◌, ◌++◌, Bool, eqb}
use Rattle.laws.specs.Tests.{pick, both}
use Rattle.file.specs.Bytes.{quote, comma, semicolon, CR, LF, ends, permitted_byte}
use Rattle.file.specs.declared.Outcome.{Outcome}
use Rattle.file.specs.declared.Outcome.TheVariants.{Whole, Unfit, CutShort}

-- where a reading stands
pub data Mode : Type 0 where
  opening : Mode  -- a field's opening quote is due; at a record's first field the file may end instead
  within : Mode  -- in a text, its last byte no quote
  quoted : Mode  -- in a text, or after it: its last byte is a quote
  returning : Mode  -- after a record's semicolon: CR is due
  feeding : Mode  -- after CR: LF is due
  stopped : Mode  -- no legal file goes on with the byte at this offset

-- what a reading carries: the fields ended in this record, the records ended, the offset of the next byte, and where the
-- text began (0 outside a text; nobody reads it behind `stopped`)
pub record State : Type 0 where
  pub mode : Mode
  pub field : ℕ
  pub records : ℕ
  pub at : ℕ
  pub start : ℕ

abbrev pub state : Mode → ℕ → ℕ → ℕ → ℕ → State
state m f k at a = record { mode = m; field = f; records = k; at = at; start = a }

-- before the first byte
abbrev pub fresh : State
fresh = state opening 0 0 0 0

-- this field is the record's last; what follows its closing quote
abbrev pub is_last : ℕ → ℕ → Bool
is_last n f = eqb (f + 1) n

abbrev pub follows : Bool → ℕ
follows last = pick last semicolon comma

-- one more byte of a text, which is a quote or not
unfoldable pub in_text : ℕ → ℕ → ℕ → ℕ → ℕ → State
in_text f k at a b = pick (permitted_byte b) (state (pick (eqb b quote) quoted within) f k (at + 1) a) (state stopped f k at a)

-- the byte b after a text's closing quote
unfoldable pub after_text : Bool → ℕ → ℕ → ℕ → ℕ → ℕ → State
after_text last f k at a b =
    pick (eqb b (follows last)) (pick last (state returning f k (at + 1) 0) (state opening (f + 1) k (at + 1) 0)) (state stopped f k at a)

-- one more byte
unfoldable pub step_in : ℕ → Mode → ℕ → ℕ → ℕ → ℕ → ℕ → State
step_in n opening f k at a b = pick (eqb b quote) (state within f k (at + 1) (at + 1)) (state stopped f k at a)
step_in n within f k at a b = in_text f k at a b
step_in n quoted f k at a b = pick (ends (quote ∷ b ∷ [])) (after_text (is_last n f) f k at a b) (in_text f k at a b)
step_in n returning f k at a b = pick (eqb b CR) (state feeding f k (at + 1) a) (state stopped f k at a)
step_in n feeding f k at a b = pick (eqb b LF) (state opening 0 (k + 1) (at + 1) a) (state stopped f k at a)
step_in n stopped f k at a b = state stopped f k at a

abbrev pub step : ℕ → State → ℕ → State
step n st b = step_in n st.mode st.field st.records st.at st.start b

unfoldable pub run : ℕ → State → List ℕ → State
run n st [] = st
run n st (b ∷ s) = run n (step n st b) s

-- a stretch of a file
pub record Span : Type 0 where
  pub start : ℕ
  pub size : ℕ

-- the text that the byte b finishes, if any: from where it began to before its closing quote
unfoldable pub finished_in : ℕ → Mode → ℕ → ℕ → ℕ → ℕ → List Span
finished_in n opening f at a b = []
finished_in n within f at a b = []
finished_in n quoted f at a b =
    pick (both (ends (quote ∷ b ∷ [])) (eqb b (follows (is_last n f)))) (record { start = a; size = at - 1 - a } ∷ []) []
finished_in n returning f at a b = []
finished_in n feeding f at a b = []
finished_in n stopped f at a b = []

-- the texts of a file, record by record, where they stand
unfoldable pub spans : ℕ → State → List ℕ → List Span
spans n st [] = []
spans n st (b ∷ s) = finished_in n st.mode st.field st.at st.start b ++ spans n (step n st b) s

-- what a reading has come to, where the file ends: so many records; 2 at this offset; 3 at this offset
unfoldable pub outcome_in : Mode → ℕ → ℕ → ℕ → Outcome
outcome_in opening f k at = pick (eqb f 0) (Whole k) (CutShort at)
outcome_in within f k at = CutShort at
outcome_in quoted f k at = CutShort at
outcome_in returning f k at = CutShort at
outcome_in feeding f k at = CutShort at
outcome_in stopped f k at = Unfit at

abbrev pub outcome : State → Outcome
outcome st = outcome_in st.mode st.field st.records st.at

-- the reading of a whole file
abbrev pub reading : ℕ → List ℕ → Outcome
reading n s = outcome (run n fresh s)
