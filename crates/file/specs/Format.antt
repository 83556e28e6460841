-- Document 01, "Bytes of a file": what a file of records with n fields each looks like, for any n.
use Rattle.std.specs.Prelude.{ℕ, ◌≡◌, List, [], ◌∷◌, ◌++◌, Bool, true, false, length}
use Rattle.file.specs.Bytes.{quote, comma, semicolon, CR, LF, permitted_text}

-- a text is its bytes, and a record its texts
abbrev pub Text : Type 0
Text = List ℕ

abbrev pub Fields : Type 0
Fields = List Text

-- a comma follows each field but the record's last; semicolon, CR, LF follow the last
abbrev pub ending : Bool → List ℕ
ending true = semicolon ∷ CR ∷ LF ∷ []
ending false = comma ∷ []

-- a field is a quote, a text, a quote, and what follows it
unfoldable pub written_field : Bool → Text → List ℕ
written_field last t = quote ∷ (t ++ quote ∷ ending last)

unfoldable pub written_record : Fields → List ℕ
written_record [] = []
written_record (t ∷ []) = written_field true t
written_record (t ∷ u ∷ ts) = written_field false t ++ written_record (u ∷ ts)

-- the writing of a list of records
unfoldable pub written : List Fields → List ℕ
written [] = []
written (r ∷ rs) = written_record r ++ written rs

-- permitted texts
unfoldable pub PermittedTexts : Fields → Type 0
PermittedTexts [] = Unit
PermittedTexts (t ∷ ts) = (permitted_text t ≡ true) × PermittedTexts ts

-- a permitted record has exactly n fields
abbrev pub PermittedRecord : ℕ → Fields → Type 0
PermittedRecord n r = (length r ≡ n) × PermittedTexts r

-- a list of permitted records
unfoldable pub Permitted : ℕ → List Fields → Type 0
Permitted n [] = Unit
Permitted n (r ∷ rs) = PermittedRecord n r × Permitted n rs

-- a legal file: any number of such records and nothing else
abbrev pub Legal : ℕ → List ℕ → Type 0
Legal n s = (rs : List Fields) × Permitted n rs × (written rs ≡ s)

-- some legal file, of whatever length, begins with these bytes
abbrev pub Begins : ℕ → List ℕ → Type 0
Begins n p = (more : List ℕ) × Legal n (p ++ more)
