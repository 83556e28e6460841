-- Document 01, "The batch": the key fields of each file, and the record that has a key. Keys compare numbers by value, so `01` and `1` are
-- one.
use Rattle.std.specs.Prelude.{ℕ, ◌+◌, List, [], ◌∷◌, Bool, true, false, eqb, leb, get_or, length, take, None, Option, Some}
use Rattle.laws.specs.Tests.{pick, both, one_of}
use Rattle.file.specs.Format.{Fields, written_record}
use Rattle.field.specs.Values.{value}
use Rattle.field.specs.Names.{field}

-- the table's column "key", from file 0 on: there is no file 0, and files 1, 11, 12 and 13 have no key
unfoldable pub key_table : List (List ℕ)
key_table =
    []
    ∷ []  -- VerzeJDF
    ∷ (1 ∷ [])  -- Zastavky
    ∷ (1 ∷ [])  -- Pevnykod
    ∷ (1 ∷ [])  -- Dopravci
    ∷ (1 ∷ [])  -- Linky
    ∷ (1 ∷ 2 ∷ [])  -- Spoje
    ∷ (1 ∷ 2 ∷ [])  -- Zaslinky
    ∷ (1 ∷ 2 ∷ 3 ∷ [])  -- Zasspoje
    ∷ (1 ∷ 2 ∷ [])  -- Udaje
    ∷ (1 ∷ 2 ∷ 3 ∷ [])  -- Caskody
    ∷ []  -- Altdop
    ∷ []  -- Altlinky
    ∷ []  -- Mistenky
    ∷ []

-- the key fields of a file
unfoldable pub key_fields : ℕ → List ℕ
key_fields file = get_or key_table file []

-- the values of these fields
unfoldable pub numbers : List ℕ → Fields → List ℕ
numbers [] r = []
numbers (f ∷ fs) r = value (field f r) ∷ numbers fs r

-- a record's key
abbrev pub key_of : ℕ → Fields → List ℕ
key_of file r = numbers (key_fields file) r

-- the same numbers
unfoldable pub same : List ℕ → List ℕ → Bool
same [] [] = true
same [] (b ∷ k) = false
same (a ∷ j) [] = false
same (a ∷ j) (b ∷ k) = both (eqb a b) (same j k)

-- one of these records has the key k
unfoldable pub has : ℕ → List ℕ → List Fields → Bool
has file k [] = false
has file k (r ∷ rs) = one_of (same (key_of file r) k) (has file k rs)

-- the place of the first record that has it, where the first of these stands at `at`
unfoldable pub first_with : ℕ → List ℕ → ℕ → List Fields → Option ℕ
first_with file k at [] = None
first_with file k at (r ∷ rs) = pick (same (key_of file r) k) (Some at) (first_with file k (at + length (written_record r)) rs)

-- The records of one trip: those whose key begins with its line and its number. They are told apart by the third number of their key.
unfoldable pub of_trip : ℕ → ℕ → ℕ → Fields → Bool
of_trip file line trip r = same (take 2 (key_of file r)) (line ∷ trip ∷ [])

unfoldable pub third : ℕ → Fields → ℕ
third file r = get_or (key_of file r) 2 0

-- above every number: a number has 1-9 digits
abbrev pub none : ℕ
none = 1000000000

abbrev pub lesser : ℕ → ℕ → ℕ
lesser a b = pick (leb a b) a b

-- the least third number of the trip's records that is not below x; `none` if there is none
unfoldable pub next_number : ℕ → ℕ → ℕ → ℕ → List Fields → ℕ
next_number file line trip x [] = none
next_number file line trip x (r ∷ rs) =
    pick (both (of_trip file line trip r) (leb x (third file r)))
    (lesser (third file r) (next_number file line trip x rs))
    (next_number file line trip x rs)

-- the place of the trip's record that is next in key order, from third number x on
unfoldable pub next_of : ℕ → ℕ → ℕ → ℕ → List Fields → Option ℕ
next_of file line trip x rs =
    pick (eqb (next_number file line trip x rs) none)
    None
    (first_with file (line ∷ trip ∷ next_number file line trip x rs ∷ []) 0 rs)
