-- What a search for the first key from x on has passed when it comes to a place.
use mathlib.Core.Path.{◌≡◌, refl, sym, ◌∙◌}
use mathlib.Core.List.{List}
use Prim.Native.Nat.{ℕ, ◌≤◌, ◌<◌}
use lib.ListN.{length}
use Rattle.file.specs.Files.{fields_of}
use Rattle.lines.specs.Lines.{behind, Next}
use Rattle.lines.specs.Order.{first_from}
use Rattle.lines.proofs.LineLaws.{place_start, next_line, line_place}
use Rattle.lines.proofs.OrderLaws.{from_hit, from_turn, from_end, place_rising, bisect}
use Rattle.keys.specs.Ranks.{rank_of, rank_key, KeyIs, record_at}
use Rattle.keys.specs.KeyFiles.{KeyFile, KeysRise, PlaceIn, records_from}
use Rattle.keys.specs.declared.Key.{Key}
use Rattle.bisection.specs.Narrowing.{Sought}

-- the first record of a file starts at 0
pub start : (file : ℕ) (s : List ℕ) → KeyFile file s → PlaceIn file s 0
start file s f = place_start (fields_of file) s f.legal

-- the record that starts at `at`, and the place behind the next LF
pub step : (file : ℕ) (s : List ℕ) (at next : ℕ) → PlaceIn file s at → at < length s → next ≡ behind s at
    → Next (fields_of file) s at (record_at file s at) next
step file s at next p h e = next_line (fields_of file) s at p h next e

-- behind the next LF from anywhere on a record starts, or the file ends
pub line_start : (file : ℕ) (s : List ℕ) (at mid to : ℕ) → PlaceIn file s at → to ≡ behind s mid → at ≤ mid → mid < length s → PlaceIn file s to
line_start file s at mid to p e h l = (line_place (fields_of file) s at mid to p h l e).place

-- nothing yet
pub sought_none : (file : ℕ) (s : List ℕ) (x from : ℕ) → PlaceIn file s from → Sought file s x from from
sought_none file s x from p = record { place = p; same = refl }

module _ (file : ℕ) (s : List ℕ) (x from at : ℕ) (p : Sought file s x from at) where
  -- a record with a lesser key is passed
  pub sought_next : (k : Key) (next : ℕ) → at < length s → KeyIs (rank_of file (record_at file s at)) k → next ≡ behind s at → rank_key k < x
      → Sought file s x from next
  sought_next k next h i e l =
      let n = step file s at next p.place h e in
      let g = rw i.rank at l in
      record { place = n.place; same = sym (from_turn (fields_of file) (rank_of file) s at x (record_at file s at) next n g) ∙ p.same }

  -- one with another is found
  pub sought_here : (k : Key) → at < length s → KeyIs (rank_of file (record_at file s at)) k → x ≤ rank_key k
      → at ≡ first_from (rank_of file) x from (records_from file s from)
  sought_here k h i l =
      let g = rw i.rank at l in
      sym (from_hit (fields_of file) (rank_of file) s at x p.place h g) ∙ p.same

  -- the file's end is the place behind the last
  pub sought_end : length s ≤ at → at ≡ first_from (rank_of file) x from (records_from file s from)
  sought_end h = sym (from_end (fields_of file) (rank_of file) s at x h) ∙ p.same

  -- where keys rise, all records before one with a lesser key are passed at once
  pub sought_far : KeysRise file s → (k : Key) (mid to : ℕ) → to ≡ behind s mid → KeyIs (rank_of file (record_at file s to)) k → rank_key k < x
      → at ≤ mid → to < length s → Sought file s x from to
  sought_far up k mid to e i l h j =
      let g = rw i.rank at l in
      let u = place_rising (fields_of file) (rank_of file) s at up p.place in
      let b = bisect (fields_of file) (rank_of file) s at mid to x p.place u h e j g in
      record { place = b.place; same = sym b.same ∙ p.same }
