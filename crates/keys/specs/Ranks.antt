-- A key as one number, so that keys are compared by numbers: the order of keys is that of their ranks, as each number of a key is below a
-- thousand million. The first two numbers, or the only one, make one part of it, and the third, or 0, the other; so ranks are compared
-- within one file.
use Rattle.std.specs.Prelude.{ℕ, ◌+◌, ◌*◌, ◌≤◌, ◌<◌, ◌≡◌, true, List, [], ◌∷◌, get_or, length, drop}
use Rattle.laws.specs.Tests.{pick}
use Rattle.file.specs.Files.{fields_of}
use Rattle.file.specs.Format.{Text, Fields}
use Rattle.file.specs.Records.{records_in}
use Rattle.field.specs.Values.{is_digit, is_digits, value}
use Rattle.field.specs.Names.{field}
use Rattle.walk.specs.Walk.{RecordAt}
use Rattle.keys.specs.Keys.{key_fields, key_of, none}
use Rattle.keys.specs.declared.Key.{Key}

unfoldable pub rank : List ℕ → ℕ
rank [] = 0
rank (a ∷ []) = a * none
rank (a ∷ b ∷ []) = (a * none + b) * none
rank (a ∷ b ∷ c ∷ more) = (a * none + b) * none + c

-- the rank of a record's key
abbrev pub rank_of : ℕ → Fields → ℕ
rank_of file r = rank (key_of file r)

-- the same of a key as the code holds it: the first two numbers in one, and the third
unfoldable pub rank_key : Key → ℕ
rank_key k = k.hi * none + k.lo

-- a key that is compared rightly by its two parts, and its rank
pub record KeyIs (x : ℕ) (k : Key) : Type 0 where
  pub rank : rank_key k ≡ x
  pub low : k.lo < none

-- these fields of a record are numbers of 1-9 digits
unfoldable pub Numbers : List ℕ → Fields → Type 0
Numbers [] r = Unit
Numbers (f ∷ fs) r = (is_digits 1 9 (field f r) ≡ true) × Numbers fs r

-- each record has a key of such numbers
unfoldable pub AllKeyed : ℕ → List Fields → Type 0
AllKeyed file [] = Unit
AllKeyed file (r ∷ rs) = Numbers (key_fields file) r × AllKeyed file rs

-- each number of a key is below a thousand million
unfoldable pub Small : List ℕ → Type 0
Small [] = Unit
Small (a ∷ k) = (a < none) × Small k

-- file has a key
abbrev pub IsKeyed : ℕ → Type 0
IsKeyed file = (2 ≤ file) × (file ≤ 10)

-- the record that starts at `at`
abbrev pub record_at : ℕ → List ℕ → ℕ → Fields
record_at file s at = get_or (records_in (fields_of file) (drop at s)) 0 []

-- a record of a keyed file starts at `at`, with numbers in its key
pub record KeyAt (file : ℕ) (s : List ℕ) (at : ℕ) : Type 0 where
  pub keyed : IsKeyed file
  pub here : RecordAt (fields_of file) s at
  pub numbers : Numbers (key_fields file) (record_at file s at)

-- the digits that stand first
unfoldable pub digits_from : List ℕ → Text
digits_from [] = []
digits_from (b ∷ l) = pick (is_digit b) (b ∷ digits_from l) []

-- what they are worth, and where they end
pub record NumberIs (t : Text) (at v end : ℕ) : Type 0 where
  pub worth : v ≡ value t
  pub place : end ≡ at + length t
