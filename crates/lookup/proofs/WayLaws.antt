-- A search goes the way of its file, and what it found is remembered.
use Rattle.std.specs.Prelude.{None, Option, Some, unwrap_or}
use mathlib.Core.Path.{◌≡◌, refl, sym, ◌∙◌}
use mathlib.Core.Bool.{Bool}
use mathlib.Core.List.{List}
use Prim.Native.Nat.{ℕ, ◌+◌, ◌<◌}
use native.Mathlib.Omega.{arith}
use native.Mathlib.Decide.{ℕ_discrete}
use lib.ListN.{length, get_or, set, length-set}
use lib.Seq.{get_or-set_same, get_or-set_other}
use Rattle.keys.specs.KeyFiles.{KeyFile, PlaceIn}
use Rattle.keys.specs.Ranks.{IsKeyed}
use Rattle.thirteen.specs.Batch.{Batch, file_in, records_of}
use Rattle.find.specs.Find.{Asks}
use Rattle.file.specs.Files.{fields_of}
use Rattle.file.specs.Records.{records_in}
use Rattle.lines.proofs.OrderLaws.{found_place}
use Rattle.keys.specs.Keys.{key_fields, first_with}
use Rattle.keys.specs.Ranks.{rank, rank_of, Small}
use Rattle.keys.proofs.KeyFileLaws.{first_with_lem}
use Rattle.lookup.specs.Ways.{rises, part_of, Lasts, Looks, how_of, from_of, to_of, found_or}

-- a place that is remembered
pub lasts_at : (b : Batch) (last : List ℕ) (file at : ℕ) → Lasts b last → file < 11 → PlaceIn file (file_in b file) at → Lasts b (set last file at)
lasts_at b last file at l h p = record { size = rw (length-set last file at) l.size; place = λ k f. go k f (ℕ_discrete k file) }
  where
    go : (k : ℕ) → IsKeyed k → Dec (k ≡ file) → PlaceIn k (file_in b k) (get_or (set last file at) k 0)
    go k f (yes e) = rw (e, get_or-set_same last file at 0 (omega (arith, l.size))) p
    go k f (no e) = rw (get_or-set_other last file k at 0 e) (l.place k f)

-- an entry that is remembered
pub lasts_entry : (b : Batch) (last : List ℕ) (file entry : ℕ) → Lasts b last → Lasts b (set last (file + 11) entry)
lasts_entry b last file entry l = record {
  size = rw (length-set last (file + 11) entry) l.size;
  place = λ k f. rw (get_or-set_other last (file + 11) k entry 0 (λ (e : k ≡ file + 11). omega (arith, f.1))) (l.place k f);
}

-- what was found by a key is where a record starts
found_there : (file : ℕ) (s k : List ℕ) (p : ℕ) → KeyFile file s → Small k → length k ≡ length (key_fields file) → first_with file k 0 (records_in (fields_of file) s) ≡ Some p → PlaceIn file s p
found_there file s k p f small size e =
    (found_place (fields_of file) (rank_of file) s (rank k) p f.legal (sym (first_with_lem file k f.keyed small size 0 (records_in (fields_of file) s) f.keys) ∙ e)).place

-- what was found, or else what was there before, as the library chooses between them
pub same_choice : (found : Option ℕ) (before : ℕ) → unwrap_or found before ≡ found_or found before
unfolding found_or
same_choice (Some p) before = refl
same_choice None before = refl

-- what was found is remembered
pub lasts_found : (b : Batch) (order ways last : List ℕ) (file : ℕ) (k : List ℕ) → Looks b order ways last → IsKeyed file → Small k → length k ≡ length (key_fields file)
    → (found : Option ℕ) → found ≡ first_with file k 0 (records_of b file) → Lasts b (set last file (found_or found (get_or last file 0)))
unfolding found_or
lasts_found b order ways last file k l f small size (Some p) e =
    lasts_at b last file p l.lasts (omega (arith, f.1)) (found_there file (file_in b file) k p (l.routes file f).serves.keyed small size (sym e))
lasts_found b order ways last file k l f small size None e = lasts_at b last file (get_or last file 0) l.lasts (omega (arith, f.1)) (l.lasts.place file f)

-- what a search in a file asks, where s is that file
pub asks_of : (b : Batch) (order ways last : List ℕ) (file count : ℕ) (s part : List ℕ) (how : Bool) → Looks b order ways last → IsKeyed file → length (key_fields file) ≡ count
    → s ≡ file_in b file → part ≡ part_of order (from_of ways file) (to_of ways file) → how ≡ rises (how_of ways file) → Asks file s how part (get_or last file 0) count
asks_of b order ways last file count s part how l f size e p h =
    rw (e, p, h) (record { serves = (l.routes file f).serves; place = l.lasts.place file f; numbers = size })
