-- Document 01, "Bytes of a file": the writer puts one field into the middle of a lent buffer.
use Rattle.std.specs.Prelude.{Result, ℕ, ◌+◌, ◌≡◌, List, [], ◌∷◌, Bool, eqb, leb, length}
use Rattle.laws.specs.Tests.{pick, both}
use Rattle.laws.specs.Splice.{splice}
use Rattle.laws.specs.Numbered.{Numbered, answered, refused}
use Rattle.file.specs.Bytes.{permitted_text}
use Rattle.file.specs.Format.{Text, written_field}
use Rattle.file.specs.Files.{among, is_file, fields_of}
use Rattle.file.specs.Answers.{numbered_written}
use Rattle.file.specs.declared.Refusal.{Refusal}

-- file has a field of this number
unfoldable pub has_field : ℕ → ℕ → Bool
has_field file f = both (is_file file) (among (fields_of file) f)

-- the bytes of the text as field f of a record of this file: text plus 3 bytes, or plus 5 for a last field
abbrev pub field_bytes : ℕ → ℕ → Text → List ℕ
field_bytes file f t = written_field (eqb f (fields_of file)) t

-- they have room in a buffer of this size, from the place on
abbrev pub fits : List ℕ → ℕ → ℕ → Bool
fits bs size place = leb (place + length bs) size

-- the place after what was written, or 20 for no such field, 21 for a text that is not permitted, 22 for no room
unfoldable pub written_of : ℕ → ℕ → Text → ℕ → ℕ → Numbered
written_of file f t size place =
    pick (has_field file f)
    (pick (permitted_text t)
    (pick (fits (field_bytes file f t) size place) (answered ((place + length (field_bytes file f t)) ∷ [])) (refused 22))
    (refused 21))
    (refused 20)

-- what the buffer d holds afterwards: no other byte changes, and none with a refusal
unfoldable pub buffer_of : ℕ → ℕ → Text → List ℕ → ℕ → List ℕ
buffer_of file f t d place =
    pick (both (has_field file f) (both (permitted_text t) (fits (field_bytes file f t) (length d) place))) (splice d place (field_bytes file f t)) d

-- the promise: the answer, and what the buffer d holds afterwards
abbrev pub WriteIs : ℕ → ℕ → Text → List ℕ → ℕ → Result ℕ Refusal → List ℕ → Type 0
WriteIs file f t d place r after =
    (numbered_written r ≡ written_of file f t (length d) place) × (after ≡ buffer_of file f t d place)
