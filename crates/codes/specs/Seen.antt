-- How the code goes about a trip's time codes: one pass, in which place t of a lent list is set when a record of type t comes, and the value of the
-- first typed record's mark is kept. Nothing here needs to be believed: what the list and the marks come to is proved to be `has_type`, `holds` and `two_marks`.
use Rattle.std.specs.Prelude.{ℕ, ◌≤◌, ◌≡◌, List, [], ◌∷◌, Bool, true, not, eqb, get_or, length, set}
use Rattle.laws.specs.Tests.{pick, both, one_of, bit}
use Rattle.file.specs.Format.{Fields}
use Rattle.field.specs.Names.{mark}
use Rattle.field.specs.Rules.{meets}
use Rattle.field.specs.Values.{value}
use Rattle.trip.specs.Days.{type_of, has_type, holds_day, holds}

-- a list of nine places or more, each 0 or 1
pub record Flags (seen : List ℕ) : Type 0 where
  pub size : 9 ≤ length seen
  pub low : (t : ℕ) → get_or seen t 0 ≤ 1

-- the list says which types there are
pub record Seen (codes : List Fields) (seen : List ℕ) : Type 0 where
  pub types : (t : ℕ) → 1 ≤ t → t ≤ 8 → get_or seen t 0 ≡ bit (has_type t codes)

-- and of which types one holds day d
pub record Held (d : ℕ) (codes : List Fields) (held : List ℕ) : Type 0 where
  pub types : (t : ℕ) → 1 ≤ t → t ≤ 8 → get_or held t 0 ≡ bit (holds t d codes)

-- the pass
unfoldable pub seen_behind : List ℕ → List Fields → List ℕ
seen_behind seen [] = seen
seen_behind seen (r ∷ codes) = seen_behind (set seen (type_of r) 1) codes

unfoldable pub held_behind : ℕ → List ℕ → List Fields → List ℕ
held_behind d held [] = held
held_behind d held (r ∷ codes) = held_behind d (pick (holds_day d r) (set held (type_of r) 1) held) codes

-- the value of the first typed record's mark, 0 if none has come: a mark is 10 to 79
unfoldable pub first_mark : ℕ → Fields → ℕ
first_mark first r = pick (both (eqb first 0) (not (eqb (type_of r) 0))) (value (mark r)) first

-- a typed record that bears another
unfoldable pub differs_from : ℕ → Fields → Bool
differs_from first r = both (not (eqb (type_of r) 0)) (both (not (eqb first 0)) (not (eqb (value (mark r)) first)))

unfoldable pub marks_differ : ℕ → Bool → List Fields → Bool
marks_differ first differ [] = differ
marks_differ first differ (r ∷ codes) = marks_differ (first_mark first r) (one_of differ (differs_from first r)) codes

-- each of these records meets the rules of its file
unfoldable pub AllMeet : ℕ → List Fields → Type 0
AllMeet file [] = Unit
AllMeet file (r ∷ rs) = (meets file r ≡ true) × AllMeet file rs
