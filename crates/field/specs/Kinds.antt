-- Document 01, "Fields", and the tables of 000: the kind of every field of files 2 to 13, and what each kind admits. A field that 000
-- requires only under a condition is optional here; its condition stands in the rules.
use Rattle.std.specs.Prelude.{ℕ, List, [], ◌∷◌, ◌++◌, Bool, false, get_or, replicate}
use Rattle.laws.specs.Tests.{one_of}
use Rattle.file.specs.Format.{Text}
use Rattle.field.specs.Values.{is_empty, among, sized, is_digits, is_date_text, is_time}
use Rattle.field.specs.declared.Kind.{Kind}

-- number: 1-9 digits; code number: 1-5 digits (where a record names a code, it may be empty); line: 6 digits; IČO: 8
abbrev pub number : Kind
number = Kind.Digits 1 9

abbrev pub code : Kind
code = Kind.MaybeDigits 1 5

abbrev pub line : Kind
line = Kind.Digits 6 6

abbrev pub firm_number : Kind
firm_number = Kind.Digits 8 8

-- a required text of up to n bytes, and an optional one
abbrev pub text : ℕ → Kind
text n = Kind.Text 1 n

abbrev pub maybe_text : ℕ → Kind
maybe_text n = Kind.Text 0 n

-- the fields of a record of each file, in order
unfoldable pub zastavky : List Kind
zastavky = number ∷ text 48 ∷ maybe_text 48 ∷ maybe_text 48 ∷ maybe_text 3 ∷ text 3 ∷ replicate 6 code

unfoldable pub pevnykod : List Kind
pevnykod = Kind.Digits 1 5 ∷ Kind.Sign ∷ maybe_text 254 ∷ []

unfoldable pub dopravci : List Kind
dopravci =
    firm_number ∷ maybe_text 14 ∷ text 254 ∷ Kind.Firm ∷ maybe_text 254 ∷ text 254 ∷ text 48 ∷ maybe_text 48 ∷ maybe_text 48 ∷ maybe_text 48 ∷ maybe_text 48 ∷ []

unfoldable pub linky : List Kind
linky =
    line ∷ text 254 ∷ firm_number ∷ Kind.LineType ∷ Kind.MaybeDigits 3 3 ∷ maybe_text 48 ∷ Kind.MaybeDate ∷ Kind.MaybeDate ∷ Kind.Date ∷ Kind.Date ∷ []

unfoldable pub spoje : List Kind
spoje = line ∷ number ∷ replicate 10 code

unfoldable pub zaslinky : List Kind
zaslinky = line ∷ number ∷ maybe_text 254 ∷ number ∷ replicate 3 code

unfoldable pub zasspoje : List Kind
zasspoje = line ∷ number ∷ number ∷ number ∷ maybe_text 48 ∷ code ∷ code ∷ Kind.MaybeDigits 1 9 ∷ Kind.Time ∷ Kind.Time ∷ []

unfoldable pub udaje : List Kind
udaje = line ∷ number ∷ text 254 ∷ []

unfoldable pub caskody : List Kind
caskody = line ∷ number ∷ number ∷ text 2 ∷ Kind.CodeType ∷ Kind.MaybeDate ∷ Kind.MaybeDate ∷ maybe_text 254 ∷ []

unfoldable pub altdop : List Kind
altdop = line ∷ number ∷ firm_number ∷ (replicate 6 code ++ (Kind.WeekType ∷ maybe_text 254 ∷ Kind.MaybeDate ∷ Kind.MaybeDate ∷ []))

unfoldable pub altlinky : List Kind
altlinky = line ∷ text 20 ∷ text 3 ∷ []

unfoldable pub mistenky : List Kind
mistenky = line ∷ number ∷ text 254 ∷ []

-- files 0 and 1 have no kinds: there is no file 0, and file 1 has refusal 4 alone
unfoldable pub kinds : List (List Kind)
kinds = [] ∷ [] ∷ zastavky ∷ pevnykod ∷ dopravci ∷ linky ∷ spoje ∷ zaslinky ∷ zasspoje ∷ udaje ∷ caskody ∷ altdop ∷ altlinky ∷ mistenky ∷ []

-- the kind of field f, from 1, of this file
unfoldable pub kind_of : ℕ → ℕ → Kind
kind_of file f = get_or (Kind.None ∷ get_or kinds file []) f Kind.None

-- the thirty signs: X + 1 2 3 4 5 6 7 R # | < @ % W w x ~ I ( ) $ { } [ O v s §
unfoldable pub signs : List ℕ
signs =
    88 ∷ 43 ∷ 49 ∷ 50 ∷ 51 ∷ 52 ∷ 53 ∷ 54 ∷ 55 ∷ 82 ∷ 35 ∷ 124 ∷ 60 ∷ 64 ∷ 37 ∷ 87 ∷ 119 ∷ 120 ∷ 126 ∷ 73 ∷ 40 ∷ 41 ∷ 36 ∷ 123 ∷ 125 ∷ 91 ∷ 79 ∷ 118 ∷ 115 ∷ 0xA7 ∷ []

-- the types of a line: A B M N P V W Z
unfoldable pub line_types : List ℕ
line_types = 65 ∷ 66 ∷ 77 ∷ 78 ∷ 80 ∷ 86 ∷ 87 ∷ 90 ∷ []

-- what each kind admits
unfoldable pub admits : Kind → Text → Bool
admits (Kind.Digits a b) t = is_digits a b t
admits (Kind.MaybeDigits a b) t = one_of (is_empty t) (is_digits a b t)
admits (Kind.Text a b) t = sized a b t
admits Kind.Date t = is_date_text t
admits Kind.MaybeDate t = one_of (is_empty t) (is_date_text t)
admits Kind.Time t = one_of (is_empty t) (one_of (among (124 ∷ 60 ∷ []) t) (is_time t))
admits Kind.Sign t = among signs t
admits Kind.Firm t = among (49 ∷ 50 ∷ []) t
admits Kind.LineType t = among line_types t
admits Kind.CodeType t = one_of (is_empty t) (among (49 ∷ 50 ∷ 51 ∷ 52 ∷ 53 ∷ 54 ∷ 55 ∷ 56 ∷ []) t)
admits Kind.WeekType t = one_of (is_empty t) (among (53 ∷ 54 ∷ []) t)
admits Kind.None t = false
