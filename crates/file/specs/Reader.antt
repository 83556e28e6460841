-- What the reader's inner functions ask and ensure.
use Rattle.std.specs.Prelude.{Result, Ok, Err, ℕ, ◌+◌, ◌≤◌, ◌<◌, ◌≡◌, List, [], ◌∷◌, ltb, get_or, length, drop}
use Rattle.laws.specs.Tests.{pick, both}
use Rattle.laws.specs.Numbered.{Numbered, answered, refused}
use Rattle.file.specs.Answers.{span_of}
use Rattle.file.specs.Bytes.{goes}
use Rattle.file.specs.Files.{among}
use Rattle.file.specs.Reading.{Span, fresh, spans, reading, opening, state, run, outcome}
use Rattle.file.specs.Fields.{halt}
use Rattle.file.specs.declared.Outcome.TheVariants.{Whole}
use Rattle.file.specs.declared.Stretch.{Stretch}

-- r is n bytes on from `at`, and within s
pub record Reached (s : List ℕ) (at n r : ℕ) : Type 0 where
  pub place : r ≡ at + n
  pub near : r ≤ length s

-- what lies ahead of `at` is within s, and a whole field takes some bytes
unfoldable pub AheadNear : List ℕ → ℕ → Result ℕ ℕ → Type 0
AheadNear s at (Ok next) = (at < next) × (next ≤ length s)
AheadNear s at (Err place) = place ≤ length s

-- the same of what follows a closing quote, where `at` is within s
unfoldable pub EndsNear : List ℕ → ℕ → Result ℕ ℕ → Type 0
EndsNear s at (Ok next) = (at < next) × (next ≤ length s)
EndsNear s at (Err place) = at ≤ length s → place ≤ length s

-- where the record comes to that starts at `at`, whatever records stand before it: the reading goes on at the next, or halts
unfoldable pub RecordAhead : ℕ → List ℕ → ℕ → Result ℕ ℕ → Type 0
RecordAhead n s at (Ok next) =
    (at < next)
    × (next ≤ length s)
    × ((k : ℕ) → run n (state opening 0 k at 0) (drop at s) ≡ run n (state opening 0 (k + 1) next 0) (drop next s))
RecordAhead n s at (Err place) = (place ≤ length s) × ((k : ℕ) → outcome (run n (state opening 0 k at 0) (drop at s)) ≡ halt place (ltb place (length s)))

-- s is a legal file, and has a text that so many others stand before
pub record Sought (n : ℕ) (s : List ℕ) (others : ℕ) : Type 0 where
  pub some : 1 ≤ n
  pub count : ℕ
  pub whole : reading n s ≡ Whole count
  pub has : others < length (spans n fresh s)

-- that text
abbrev pub text_span : ℕ → List ℕ → ℕ → Span
text_span n s others = get_or (spans n fresh s) others (record { start = 0; size = 0 })

-- its opening quote stands at this place
pub record OpensAt (n : ℕ) (s : List ℕ) (others at : ℕ) : Type 0 where
  pub near : at < length s
  pub text : text_span n s others ≡ record { start = at + 1; size = goes (drop (at + 1) s) }

unfoldable pub text_after : ℕ → List ℕ → ℕ → Stretch
text_after n s others = record { start = (text_span n s others).start; size = (text_span n s others).size }

-- a stretch is inside a file of so many bytes
abbrev pub Inside : ℕ → Stretch → Type 0
Inside size x = x.start + x.size ≤ size

-- s is a legal file of k records with n fields each
pub record Reads (n : ℕ) (s : List ℕ) (k : ℕ) : Type 0 where
  pub some : 1 ≤ n
  pub whole : reading n s ≡ Whole k

-- what is asked of such a file: a stretch, or 20 for a record or field that it doesn't have
unfoldable pub text_in : ℕ → List ℕ → ℕ → ℕ → ℕ → Numbered
text_in n s k r f = pick (both (among k r) (among n f)) (answered ((span_of n s r f).start ∷ (span_of n s r f).size ∷ [])) (refused 20)
