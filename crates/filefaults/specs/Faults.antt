-- Document 01's refusals 2, 3 and 4 of one file.
use Rattle.std.specs.Prelude.{ℕ, List, [], ◌∷◌, Bool}
use Rattle.laws.specs.Tests.{pick}
use Rattle.laws.specs.Numbered.{Numbered, answered, refused_at, refused_in}
use Rattle.file.specs.Format.{Text, Fields}
use Rattle.file.specs.declared.Outcome.{Outcome}
use Rattle.file.specs.declared.Outcome.TheVariants.{Whole, Unfit, CutShort}
use Rattle.field.specs.Names.{field}
use Rattle.keys.specs.Keys.{same}

-- 2 and 3: no legal file goes on with this byte; the file ends inside a record
unfoldable pub outcome_fault : ℕ → Outcome → Numbered
outcome_fault file (Whole k) = answered []
outcome_fault file (Unfit at) = refused_at 2 file at
outcome_fault file (CutShort at) = refused_at 3 file at

-- the text `1.8`
unfoldable pub is_version : Text → Bool
is_version t = same t (49 ∷ 46 ∷ 56 ∷ [])

-- 4: VerzeJDF isn't one record `1.8`; record and field 1 if there is one record, else 0
unfoldable pub version_fault : List Fields → Numbered
version_fault [] = refused_in 4 1 0 0
version_fault (r ∷ []) = pick (is_version (field 1 r)) (answered []) (refused_in 4 1 1 1)
version_fault (r ∷ q ∷ rs) = refused_in 4 1 0 0
