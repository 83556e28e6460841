-- Document 01, "The batch": which files there are, how many fields their records have, and how long a file may be.
use Rattle.std.specs.Prelude.{ℕ, List, [], ◌∷◌, Bool, leb, get_or}
use Rattle.laws.specs.Tests.{both}

-- VerzeJDF, Zastavky, Pevnykod, Dopravci, Linky, Spoje, Zaslinky, Zasspoje, Udaje, Caskody, Altdop, Altlinky, Mistenky
unfoldable pub field_counts : List ℕ
field_counts = 1 ∷ 12 ∷ 3 ∷ 11 ∷ 10 ∷ 12 ∷ 7 ∷ 10 ∷ 3 ∷ 8 ∷ 13 ∷ 3 ∷ 3 ∷ []

-- among the numbers 1 to n
abbrev pub among : ℕ → ℕ → Bool
among n k = both (leb 1 k) (leb k n)

-- the number of one of the thirteen files
abbrev pub is_file : ℕ → Bool
is_file k = among 13 k

-- how many fields a record of file k has; 0 where there is no such file
unfoldable pub fields_of : ℕ → ℕ
fields_of k = get_or (0 ∷ field_counts) k 0

-- the greatest length of a file
abbrev pub longest : ℕ
longest = 16777215
