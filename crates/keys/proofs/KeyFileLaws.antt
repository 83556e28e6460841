-- Laws of a file whose records are found by their keys: a key can be read at each place, and the record that has a key is the one that has
-- its rank.
use mathlib.Core.Path.{◌≡◌, refl}
use mathlib.Core.Bool.{Bool, true, false}
use mathlib.Core.List.{List, [], ◌∷◌, ◌++◌}
use Prim.Native.Nat.{ℕ, ◌+◌, ◌<◌}
use lib.ListN.{length}
use Rattle.laws.specs.Tests.{pick, one_of}
use Rattle.file.specs.Files.{fields_of}
use Rattle.file.specs.Format.{Fields, written_record}
use Rattle.lines.specs.Order.{has_rank, first_ranked}
use Rattle.lines.proofs.LineLaws.{record_at_lem}
use Rattle.keys.specs.Keys.{key_fields, key_of, same, has, first_with}
use Rattle.keys.specs.Ranks.{rank, rank_of, AllKeyed, Small, IsKeyed, KeyAt, record_at}
use Rattle.keys.specs.KeyFiles.{KeyFile, PlaceIn, records_from}
use Rattle.keys.proofs.TableLaws.{keyed_fields}
use Rattle.keys.proofs.KeyLaws.{key_small, rank_key_lem, keyed_head, keyed_rest, keyed_tail, keyed_at}

-- the records from a place on have keys
pub keys_from : (file : ℕ) (s : List ℕ) (at : ℕ) → KeyFile file s → PlaceIn file s at → AllKeyed file (records_from file s at)
keys_from file s at f p = keyed_tail file p.past (records_from file s at) (rw p.whole at f.keys)

-- and so have those before it
keyed_front : (file : ℕ) (a b : List Fields) → AllKeyed file (a ++ b) → AllKeyed file a
unfolding AllKeyed
keyed_front file [] b h = tt
keyed_front file (r ∷ a) b h = (h.0, keyed_front file a b h.1)

pub keys_past : (file : ℕ) (s : List ℕ) (at : ℕ) → KeyFile file s → (p : PlaceIn file s at) → AllKeyed file p.past
keys_past file s at f p = keyed_front file p.past (records_from file s at) (rw p.whole at f.keys)

-- where a record starts, its key can be read
pub key_here : (file : ℕ) (s : List ℕ) (at : ℕ) → KeyFile file s → PlaceIn file s at → at < length s → KeyAt file s at
key_here file s at f p h =
    keyed_at file s at f.keyed (record_at_lem (fields_of file) s at p h (keyed_fields file f.keyed).1) (keys_from file s at f p)

-- and its numbers are as many as its key fields, each below a thousand million
pub here_small : (file : ℕ) (s : List ℕ) (at : ℕ) → KeyAt file s at → Small (key_of file (record_at file s at))
here_small file s at h = key_small (key_fields file) (record_at file s at) h.numbers

-- The record that has a key is the one that has its rank.
module _ (file : ℕ) (k : List ℕ) (f : IsKeyed file) (small : Small k) (size : length k ≡ length (key_fields file)) where
  pub has_rank_lem : (rs : List Fields) → AllKeyed file rs → has file k rs ≡ has_rank (rank_of file) (rank k) rs
  unfolding has has_rank
  has_rank_lem [] a = refl
  has_rank_lem (r ∷ rs) a =
      rw (rank_key_lem file r k f (keyed_head file r rs a) small size, ← has_rank_lem rs (keyed_rest file r rs a))
      (one_pick (same (key_of file r) k) (has file k rs))
    where
      one_pick : (t u : Bool) → one_of t u ≡ pick t true u
      one_pick true u = refl
      one_pick false u = refl

  pub first_with_lem : (at : ℕ) (rs : List Fields) → AllKeyed file rs → first_with file k at rs ≡ first_ranked (rank_of file) (rank k) at rs
  unfolding first_with first_ranked
  first_with_lem at [] a = refl
  first_with_lem at (r ∷ rs) a =
      rw (rank_key_lem file r k f (keyed_head file r rs a) small size, first_with_lem (at + length (written_record r)) rs (keyed_rest file r rs a))
