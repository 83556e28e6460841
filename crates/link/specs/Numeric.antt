-- The kinds of field whose texts are numbers below a thousand million: what a key or a link is made of.
use Rattle.std.specs.Prelude.{ℕ, ◌≤◌, ◌≡◌, List, [], ◌∷◌, Bool, true, false, leb}
use Rattle.laws.specs.Tests.{both}
use Rattle.file.specs.Files.{fields_of}
use Rattle.field.specs.Kinds.{kind_of}
use Rattle.field.specs.declared.Kind.{Kind}

-- always 1-9 digits
unfoldable pub numeric : Kind → Bool
numeric (Kind.Digits a b) = both (leb 1 a) (leb b 9)
numeric (Kind.MaybeDigits a b) = false
numeric (Kind.Text a b) = false
numeric Kind.Date = false
numeric Kind.MaybeDate = false
numeric Kind.Time = false
numeric Kind.Sign = false
numeric Kind.Firm = false
numeric Kind.LineType = false
numeric Kind.CodeType = false
numeric Kind.WeekType = false
numeric Kind.None = false

-- 1-9 digits, or empty
unfoldable pub code_kind : Kind → Bool
code_kind (Kind.Digits a b) = false
code_kind (Kind.MaybeDigits a b) = both (leb 1 a) (leb b 9)
code_kind (Kind.Text a b) = false
code_kind Kind.Date = false
code_kind Kind.MaybeDate = false
code_kind Kind.Time = false
code_kind Kind.Sign = false
code_kind Kind.Firm = false
code_kind Kind.LineType = false
code_kind Kind.CodeType = false
code_kind Kind.WeekType = false
code_kind Kind.None = false

-- a file's records have a field f, and it is a number; and a code
abbrev pub NumberAt : ℕ → ℕ → Type 0
NumberAt file f = (numeric (kind_of file f) ≡ true) × (1 ≤ f) × (f ≤ fields_of file)

abbrev pub CodeAt : ℕ → ℕ → Type 0
CodeAt file f = (code_kind (kind_of file f) ≡ true) × (1 ≤ f) × (f ≤ fields_of file)

-- each of these fields is a number
abbrev pub NumbersAt : ℕ → List ℕ → Type 0
NumbersAt file [] = Unit
NumbersAt file (f ∷ fs) = NumberAt file f × NumbersAt file fs
