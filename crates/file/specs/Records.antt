-- The records of a file as lists of texts, for what stands above: field f of record r is the text of its stretch.
use Rattle.std.specs.Prelude.{ℕ, zero, suc, ◌+◌, List, [], ◌∷◌, take, drop}
use Rattle.file.specs.Format.{Text, Fields}
use Rattle.file.specs.Reading.{reading}
use Rattle.file.specs.Answers.{span_of}
use Rattle.file.specs.declared.Outcome.{Outcome}
use Rattle.file.specs.declared.Outcome.TheVariants.{Whole, Unfit, CutShort}

-- what g gives for 0 to k - 1, in order
unfoldable pub up_to : {A : Type 0} → ℕ → (ℕ → A) → List A
up_to zero g = []
up_to (suc k) g = g 0 ∷ up_to k (λ i. g (suc i))

-- the text of field f of record r, both from 1
abbrev pub text_at : ℕ → List ℕ → ℕ → ℕ → Text
text_at n s r f = take (span_of n s r f).size (drop (span_of n s r f).start s)

-- a legal file's records; a file that is not legal has none
unfoldable pub records_by : ℕ → List ℕ → Outcome → List Fields
records_by n s (Whole k) = up_to k (λ r. up_to n (λ f. text_at n s (r + 1) (f + 1)))
records_by n s (Unfit at) = []
records_by n s (CutShort at) = []

abbrev pub records_in : ℕ → List ℕ → List Fields
records_in n s = records_by n s (reading n s)
