-- Document 01, "The batch": thirteen byte strings, numbered in this order. An empty string is a file with no records; a missing file counts
-- as empty.
use Rattle.std.specs.Prelude.{ℕ, zero, suc, ◌+◌, List, [], ◌∷◌, eqb, get_or}
use Rattle.laws.specs.Tests.{pick}
use Rattle.laws.specs.Numbered.{Numbered, answered}
use Rattle.file.specs.Files.{fields_of}
use Rattle.file.specs.Format.{Fields}
use Rattle.file.specs.Records.{records_in}

abbrev pub Batch : Type 0
Batch = List (List ℕ)

abbrev pub thirteen : List ℕ → List ℕ → List ℕ → List ℕ → List ℕ → List ℕ → List ℕ → List ℕ → List ℕ → List ℕ → List ℕ → List ℕ → List ℕ → Batch
thirteen f1 f2 f3 f4 f5 f6 f7 f8 f9 f10 f11 f12 f13 =
    f1 ∷ f2 ∷ f3 ∷ f4 ∷ f5 ∷ f6 ∷ f7 ∷ f8 ∷ f9 ∷ f10 ∷ f11 ∷ f12 ∷ f13 ∷ []

-- the bytes of a file by its number; none where there is no such file
unfoldable pub file_in : Batch → ℕ → List ℕ
file_in b file = get_or ([] ∷ b) file []

-- and its records
abbrev pub records_of : Batch → ℕ → List Fields
records_of b file = records_in (fields_of file) (file_in b file)

-- the first fault wins: that of the first, or else that of the next
abbrev pub or_else : Numbered → Numbered → Numbered
or_else a next = pick (eqb a.number 0) next a

-- the first fault of `count` files, from this one on, where `fault` gives each file's
unfoldable pub over_files : (ℕ → Numbered) → ℕ → ℕ → Numbered
over_files fault file zero = answered []
over_files fault file (suc count) = or_else (fault file) (over_files fault (file + 1) count)
