-- The ways to the records of a batch's keyed files, files 2-10. Where the part of the lent list for a file stands: the list has one part for
-- each of the files 2-10, in this order, whose keys don't rise, with as many entries as the file has records; nothing for a file whose keys
-- rise. Three numbers are kept for each file: how, and where its part begins and ends.
use Rattle.std.specs.Prelude.{ℕ, ◌+◌, ◌-◌, ◌*◌, ◌≤◌, ◌<◌, ◌≡◌, Bool, true, false, List, eqb, length, get_or, take, drop, None, Option, Some}
use Rattle.laws.specs.Tests.{one_of}
use Rattle.keys.specs.Keys.{key_of, has}
use Rattle.keys.specs.KeyFiles.{KeyFile, PlaceIn}
use Rattle.keys.specs.Ranks.{IsKeyed, record_at}
use Rattle.find.specs.Find.{Serves}
use Rattle.thirteen.specs.Batch.{Batch, file_in}

-- how: 0 there is no way but record by record; 1 the keys rise; 2 the part is an index whose keys are all different; 3 it is an index
abbrev pub rises : ℕ → Bool
rises how = eqb how 1

-- in these no two records have one key
abbrev pub apart : ℕ → Bool
apart how = one_of (eqb how 1) (eqb how 2)

-- a part of the list
abbrev pub part_of : List ℕ → ℕ → ℕ → List ℕ
part_of order from to = take (to - from) (drop from order)

-- no record has the key of an earlier one
abbrev pub NoneUsed : ℕ → List ℕ → Type 0
NoneUsed file s = (at : ℕ) (p : PlaceIn file s at) → at < length s → has file (key_of file (record_at file s at)) p.past ≡ false

-- the way to the records of one file
pub record Way (file : ℕ) (s order : List ℕ) (how from to : ℕ) : Type 0 where
  pub ends : from ≤ to
  pub near : to ≤ length order
  pub serves : Serves file s (rises how) (part_of order from to)
  pub once : apart how ≡ true → NoneUsed file s

-- the three numbers of a file
abbrev pub how_of : List ℕ → ℕ → ℕ
how_of ways file = get_or ways (file * 3) 0

abbrev pub from_of : List ℕ → ℕ → ℕ
from_of ways file = get_or ways (file * 3 + 1) 0

abbrev pub to_of : List ℕ → ℕ → ℕ
to_of ways file = get_or ways (file * 3 + 2) 0

-- the way to each keyed file
abbrev pub WayTo : Batch → List ℕ → List ℕ → ℕ → Type 0
WayTo b order ways file = Way file (file_in b file) order (how_of ways file) (from_of ways file) (to_of ways file)

abbrev pub Ways : Batch → List ℕ → List ℕ → Type 0
Ways b order ways = (file : ℕ) → IsKeyed file → WayTo b order ways file

-- the keyed files are legal and have numbers in their keys
abbrev pub KeyFiles : Batch → Type 0
KeyFiles b = (file : ℕ) → IsKeyed file → KeyFile file (file_in b file)

-- where a record was found last in each file; eleven places on, the entry of the file's index that led to it, of which nothing is asked
pub record Lasts (b : Batch) (last : List ℕ) : Type 0 where
  pub size : 22 ≤ length last
  pub place : (file : ℕ) → IsKeyed file → PlaceIn file (file_in b file) (get_or last file 0)

-- what a search asks
pub record Looks (b : Batch) (order ways last : List ℕ) : Type 0 where
  pub size : 33 ≤ length ways
  pub routes : Ways b order ways
  pub lasts : Lasts b last

-- where a record was found, or else where one was found before
unfoldable pub found_or : Option ℕ → ℕ → ℕ
found_or (Some at) before = at
found_or None before = before
