-- Laws of a file whose keys rise: what a pass over it has seen, where a search may start, and what its callers learn of the place that is found.
use mathlib.Core.Path.{◌≡◌, sym, ap, ◌∙◌}
use mathlib.Core.Bool.{Bool, true, false}
use mathlib.Core.List.{List, ◌∷◌, ◌++◌}
use Prim.Native.Nat.{ℕ, ◌+◌, ◌≤◌, ◌<◌}
use native.Mathlib.Omega.{arith}
use lib.ListN.{length, drop}
use Rattle.file.specs.Files.{fields_of}
use Rattle.file.specs.Format.{Fields, written}
use Rattle.file.specs.Records.{records_in}
use Rattle.walk.proofs.WalkLaws.{first_record}
use Rattle.lines.specs.Lines.{behind, Place}
use Rattle.lines.specs.Order.{first_from, Rising, rises_after, is_rising}
use Rattle.lines.proofs.LineLaws.{next_at}
use Rattle.lines.proofs.OrderLaws.{is_rising_lem, rises_start, rises_turn, rises_stop, rises_end, from_skip, place_distinct}
use Rattle.lines.proofs.OrderLaws as order
use Rattle.keys.specs.Keys.{none, key_of, has}
use Rattle.keys.specs.Ranks.{rank_of, rank_key, KeyIs, record_at}
use Rattle.keys.specs.KeyFiles.{KeyFile, KeysRise, PlaceIn, records_from}
use Rattle.keys.specs.declared.Key.{Key}
use Rattle.keys.proofs.KeyLaws.{key_size}
use Rattle.keys.proofs.KeyFileLaws.{key_here, here_small, keys_past, has_rank_lem}
use Rattle.bisection.specs.Narrowing.{Sought}
use Rattle.bisection.proofs.SoughtLaws.{start, step, sought_next, sought_here}

-- what a pass has seen when it comes to `at`, where `last` is the key before: the file's keys rise if those from there on do
pub record Passed (file : ℕ) (s : List ℕ) (last : Key) (at : ℕ) : Type 0 where
  pub place : PlaceIn file s at
  pub low : last.lo < none
  pub rest : rises_after (rank_of file) (rank_key last) (records_from file s at) ≡ is_rising (rank_of file) (records_in (fields_of file) s)

-- behind the first record
pub passed_first : (file : ℕ) (s : List ℕ) (k : Key) (next : ℕ) → KeyFile file s → 0 < length s
    → KeyIs (rank_of file (record_at file s 0)) k → next ≡ behind s 0 → Passed file s k next
passed_first file s k next f h i e =
    let n = step file s 0 next (start file s f) h e in
    record {
      place = n.place;
      low = i.low;
      rest = rw i.rank (sym (rises_start (fields_of file) (rank_of file) s (record_at file s 0) next n));
    }

module _ (file : ℕ) (s : List ℕ) (last : Key) (at : ℕ) (p : Passed file s last at) where
  -- behind a record with a greater key
  pub passed_next : (k : Key) (next : ℕ) → at < length s → KeyIs (rank_of file (record_at file s at)) k → next ≡ behind s at
      → rank_key last < rank_key k → Passed file s k next
  passed_next k next h i e l =
      let n = step file s at next p.place h e in
      let g = rw i.rank at l in
      record {
        place = n.place;
        low = i.low;
        rest = rw i.rank (sym (rises_turn (fields_of file) (rank_of file) s at (rank_key last) (record_at file s at) next n g) ∙ p.rest);
      }

  -- a record with another key ends the pass
  pub passed_stop : (k : Key) → at < length s → KeyIs (rank_of file (record_at file s at)) k → rank_key k ≤ rank_key last
      → false ≡ is_rising (rank_of file) (records_in (fields_of file) s)
  passed_stop k h i l =
      let g = rw i.rank at l in
      sym (rises_stop (fields_of file) (rank_of file) s at (rank_key last) p.place h g) ∙ p.rest

  -- and so does the file's end
  pub passed_end : length s ≤ at → true ≡ is_rising (rank_of file) (records_in (fields_of file) s)
  passed_end h = sym (rises_end (fields_of file) (rank_of file) s at (rank_key last) h) ∙ p.rest

-- where keys rise, all records before one whose key is at most x have lesser keys
pub from_split : (n : ℕ) (rank : Fields → ℕ) (s : List ℕ) (at x : ℕ) → Rising rank (records_in n s) → Place n s at → at < length s
    → rank (first_record n s at) ≤ x → first_from rank x 0 (records_in n s) ≡ first_from rank x at (records_in n (drop at s))
from_split n rank s at x up p h l =
    let w = (next_at n s at p h).rest in
    let v : records_in n s ≡ p.past ++ (first_record n s at ∷ records_in n (drop (behind s at) s)) =
    p.whole ∙ ap (λ (y : List Fields). p.past ++ y) w in
    let f = from_skip rank x 0 p.past (first_record n s at) (records_in n (drop (behind s at) s)) (rw v at up) l in
    let z : 0 + length (written p.past) ≡ at = omega (arith, p.size) in
    ap (first_from rank x 0) v ∙ f ∙ ap (first_from rank x (0 + length (written p.past))) (sym w) ∙ rw z

-- so a search may start there
module _ (file : ℕ) (s : List ℕ) (x at : ℕ) (up : KeysRise file s) (p : PlaceIn file s at) (h : at < length s) (k : Key)
    (i : KeyIs (rank_of file (record_at file s at)) k) where
  there : rank_key k ≤ x → Sought file s x 0 at
  there l =
      let g = rw i.rank at l in
      record { place = p; same = sym (from_split (fields_of file) (rank_of file) s at x up p h g) }

  -- it ends there where x is the key
  pub there_found : rank_key k ≡ x → at ≡ first_from (rank_of file) x 0 (records_in (fields_of file) s)
  there_found e = sought_here file s x 0 at (there (omega arith)) k h i (omega arith)

  -- and comes to the next record where x is above it
  pub there_passed : (next : ℕ) → next ≡ behind s at → rank_key k < x → Sought file s x 0 next
  there_passed next e l = sought_next file s x 0 at (there (omega arith)) k next h i e l

-- For the callers.
-- the test shows that keys rise
pub rises_flag : (file : ℕ) (s : List ℕ) (r : Bool) → r ≡ is_rising (rank_of file) (records_in (fields_of file) s) → r ≡ true → KeysRise file s
rises_flag file s r e t = is_rising_lem (rank_of file) (records_in (fields_of file) s) (sym e ∙ t)

-- what is found is where a record starts, or the file's end
pub from_place : (file : ℕ) (s : List ℕ) (x p : ℕ) → KeyFile file s → p ≡ first_from (rank_of file) x 0 (records_in (fields_of file) s) → PlaceIn file s p
from_place file s x p f e = order.from_place (fields_of file) (rank_of file) s x p f.legal e

-- where keys rise, no record has the key of one before it
pub rising_once : (file : ℕ) (s : List ℕ) → KeyFile file s → KeysRise file s → (at : ℕ) (p : PlaceIn file s at) → at < length s
    → has file (key_of file (record_at file s at)) p.past ≡ false
rising_once file s f up at p h =
    let r = record_at file s at in
    has_rank_lem file (key_of file r) f.keyed (here_small file s at (key_here file s at f p h)) (key_size file r) p.past (keys_past file s at f p)
    ∙ place_distinct (fields_of file) (rank_of file) s at p up h
