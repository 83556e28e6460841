-- A trip's records one after another, by their numbers: upward, or downward from the greatest. `x` is the number that a walk has come to: upward
-- the records from x on are ahead, downward those below x.
use Rattle.std.specs.Prelude.{ℕ, ◌+◌, ◌≤◌, ◌<◌, ◌≡◌, Bool, true, false, List, [], ◌∷◌, ltb, leb, length, None, Option, Some}
use Rattle.laws.specs.Tests.{pick}
use Rattle.file.specs.Files.{fields_of}
use Rattle.file.specs.Format.{Fields}
use Rattle.file.specs.Records.{records_in}
use Rattle.lines.specs.Lines.{behind}
use Rattle.keys.specs.Keys.{key_fields, key_of, has, of_trip, third, none, next_of}
use Rattle.keys.specs.KeyFiles.{PlaceIn}
use Rattle.keys.specs.Ranks.{record_at}
use Rattle.lookup.specs.Ways.{Way, how_of, from_of, to_of}
use Rattle.previous.specs.Previous.{previous_of}
use Rattle.rules.specs.Texts.{texts}
use Rattle.trail.specs.Lists.{select, backward, rising}

-- the trip's records in a file, by rising third number of their keys
unfoldable pub upward : ℕ → ℕ → ℕ → List Fields → List Fields
upward file line trip rs = rising (third file) (select (of_trip file line trip) rs)

-- those that are ahead
unfoldable pub ahead : ℕ → Bool → ℕ → List Fields → List Fields
ahead file up x rs =
    pick up
    (select (λ r. leb x (third file r)) rs)
    (backward (select (λ r. ltb (third file r) x) rs))

-- where a walk begins, and where it goes on behind number y
abbrev pub begin : Bool → ℕ
begin up = pick up 0 none

abbrev pub after : Bool → ℕ → ℕ
after up y = pick up (y + 1) y

-- the place of the next record that is ahead
unfoldable pub step_of : ℕ → Bool → ℕ → ℕ → ℕ → List Fields → Option ℕ
step_of file up line trip x rs = pick up (next_of file line trip x rs) (previous_of file line trip x rs)

-- no two of these records have one key
unfoldable pub Once : ℕ → List Fields → Type 0
Once file [] = Unit
Once file (r ∷ rs) = (has file (key_of file r) rs ≡ false) × Once file rs

-- a place where a walk may stand: that of a record, or the end of the file
unfoldable pub place_of : List ℕ → Option ℕ → ℕ
place_of s (Some at) = at
place_of s None = length s

-- what a walk along a file's records asks: the way to them, keys of three numbers, a place that is tried first
pub record Walks (file : ℕ) (s order ways : List ℕ) (last : ℕ) : Type 0 where
  pub size : 33 ≤ length ways
  pub way : Way file s order (how_of ways file) (from_of ways file) (to_of ways file)
  pub place : PlaceIn file s last
  pub three : length (key_fields file) ≡ 3

-- what a step from a record of the trip knows besides: the record was cut, and `next` is the place behind it
pub record Treads (file : ℕ) (s places : List ℕ) (line trip at next : ℕ) : Type 0 where
  pub within : at < length s
  pub here : record_at file s at ≡ texts file s places
  pub past : next ≡ behind s at
  pub mine : of_trip file line trip (record_at file s at) ≡ true

-- the record that a walk comes to at `at`, if there is one: what was ahead is that record and what is ahead behind it
pub record Comes (file : ℕ) (s : List ℕ) (up : Bool) (line trip x at : ℕ) : Type 0 where
  pub place : PlaceIn file s at
  pub small : at < length s → third file (record_at file s at) < none
  pub mine : at < length s → of_trip file line trip (record_at file s at) ≡ true
  pub more : at < length s
      → ahead file up x (upward file line trip (records_in (fields_of file) s))
      ≡ record_at file s at ∷ ahead file up (after up (third file (record_at file s at))) (upward file line trip (records_in (fields_of file) s))
  pub done : length s ≤ at → ahead file up x (upward file line trip (records_in (fields_of file) s)) ≡ []
