-- What the reader's calls come back with, document 01's number and place for each case of an answer, and the promises.
use Rattle.std.specs.Prelude.{Result, Ok, Err, ℕ, ◌+◌, ◌-◌, ◌*◌, ◌≡◌, List, [], ◌∷◌, leb, get_or, length, take, drop}
use Rattle.laws.specs.Tests.{pick, both}
use Rattle.laws.specs.Numbered.{Numbered, answered, refused, refused_at}
use Rattle.file.specs.Format.{Text}
use Rattle.file.specs.Files.{among, is_file, fields_of, longest}
use Rattle.file.specs.Reading.{Span, fresh, spans, reading}
use Rattle.file.specs.declared.Outcome.{Outcome}
use Rattle.file.specs.declared.Outcome.TheVariants.{Whole, Unfit, CutShort}
use Rattle.file.specs.declared.Refusal.{Refusal}
use Rattle.file.specs.declared.Stretch.{Stretch}

-- document 01's number and place for each refusal
unfoldable pub numbered : Refusal → Numbered
numbered (Refusal.TooLong file) = refused_at 1 file 0
numbered (Refusal.Unfit file at) = refused_at 2 file at
numbered (Refusal.CutShort file at) = refused_at 3 file at
numbered Refusal.NoSuch = refused 20
numbered Refusal.NotPermitted = refused 21
numbered Refusal.NoRoom = refused 22

-- and for each answer with its values: how many records; start and size of a stretch; the place after what was written
unfoldable pub numbered_counted : Result ℕ Refusal → Numbered
numbered_counted (Ok k) = answered (k ∷ [])
numbered_counted (Err r) = numbered r

unfoldable pub numbered_stretch : Result Stretch Refusal → Numbered
numbered_stretch (Ok x) = answered (x.start ∷ x.size ∷ [])
numbered_stretch (Err r) = numbered r

unfoldable pub numbered_written : Result ℕ Refusal → Numbered
numbered_written (Ok place) = answered (place ∷ [])
numbered_written (Err r) = numbered r

-- 20 for a file number outside 1-13, 1 for a file that is too long, else what the reading came to
unfoldable pub asked : (Outcome → Numbered) → ℕ → List ℕ → Numbered
asked answer file s =
    pick (is_file file) (pick (leb (length s) longest) (answer (reading (fields_of file) s)) (refused_at 1 file 0)) (refused 20)

-- the number of records, or the file's own 2 or 3
unfoldable pub counted : ℕ → Outcome → Numbered
counted file (Whole k) = answered (k ∷ [])
counted file (Unfit at) = refused_at 2 file at
counted file (CutShort at) = refused_at 3 file at

abbrev pub counted_of : ℕ → List ℕ → Numbered
counted_of file s = asked (counted file) file s

-- where field f of record r stands in a file whose records have n fields; both count from 1
unfoldable pub span_of : ℕ → List ℕ → ℕ → ℕ → Span
span_of n s r f = get_or (spans n fresh s) ((r - 1) * n + (f - 1)) (record { start = 0; size = 0 })

-- that stretch, or the file's own 2 or 3, or 20 for a record or field that it doesn't have
unfoldable pub located : ℕ → List ℕ → ℕ → ℕ → Outcome → Numbered
located file s r f (Whole k) =
    pick (both (among k r) (among (fields_of file) f))
    (answered ((span_of (fields_of file) s r f).start ∷ (span_of (fields_of file) s r f).size ∷ []))
    (refused 20)
located file s r f (Unfit at) = refused_at 2 file at
located file s r f (CutShort at) = refused_at 3 file at

abbrev pub stretch_of : ℕ → List ℕ → ℕ → ℕ → Numbered
stretch_of file s r f = asked (located file s r f) file s

-- the bytes of a stretch; none with any refusal
unfoldable pub stretch_in : List ℕ → List ℕ → Text
stretch_in s [] = []
stretch_in s (start ∷ []) = []
stretch_in s (start ∷ size ∷ more) = take size (drop start s)

abbrev pub text_of : ℕ → List ℕ → ℕ → ℕ → Text
text_of file s r f = stretch_in s (stretch_of file s r f).values

-- the promises; that of a part of the file speaks of its bytes
abbrev pub RecordsIs : ℕ → List ℕ → Result ℕ Refusal → Type 0
RecordsIs file s r = numbered_counted r ≡ counted_of file s

abbrev pub StretchIs : ℕ → List ℕ → ℕ → ℕ → Result Stretch Refusal → Type 0
StretchIs file s r f x = numbered_stretch x ≡ stretch_of file s r f

abbrev pub PartIs : ℕ → List ℕ → ℕ → ℕ → Text → Type 0
PartIs file s r f x = x ≡ text_of file s r f
