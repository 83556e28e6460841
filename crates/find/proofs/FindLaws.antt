-- What is found by rank is what is found by key.
use Rattle.std.specs.Prelude.{None, Some}
use mathlib.Core.Path.{◌≡◌, sym, ap, ◌∙◌}
use mathlib.Core.Bool.{false}
use mathlib.Core.List.{List, [], ◌∷◌}
use Prim.Native.Nat.{ℕ, ◌+◌, ◌*◌, ◌<◌}
use native.Mathlib.Omega.{arith}
use lib.Dec.{ltb}
use lib.ListN.{length}
use borrow.Author.Tests.{ltb-true, ltb-false}
use Rattle.laws.specs.Tests.{either}
use Rattle.file.specs.Files.{fields_of}
use Rattle.file.specs.Format.{Fields}
use Rattle.file.specs.Records.{records_in}
use Rattle.lines.specs.Order.{first_ranked, has_rank}
use Rattle.lines.proofs.OrderLaws.{back_hit, back_miss, back_none}
use Rattle.keys.specs.Keys.{key_fields, key_of, none, has, first_with}
use Rattle.keys.specs.KeyFiles.{KeyFile, PlaceIn}
use Rattle.keys.specs.Ranks.{rank, rank_of, rank_key, record_at, KeyIs, IsKeyed, AllKeyed, Small}
use Rattle.keys.specs.declared.Key.{Key}
use Rattle.keys.proofs.KeyFileLaws.{first_with_lem, has_rank_lem, key_here, here_small, keys_past}
use Rattle.keys.proofs.KeyLaws.{key_size}

-- a key of one number, of two, of three, as the code holds it
pub rank_one : (a : ℕ) → rank_key (record { hi = a; lo = 0 }) ≡ rank (a ∷ [])
unfolding rank rank_key
rank_one a = omega arith

pub rank_two : (a b : ℕ) → rank_key (record { hi = a * none + b; lo = 0 }) ≡ rank (a ∷ b ∷ [])
unfolding rank rank_key
rank_two a b = omega arith

pub rank_three : (a b c : ℕ) → rank_key (record { hi = a * none + b; lo = c }) ≡ rank (a ∷ b ∷ c ∷ [])
unfolding rank rank_key
rank_three a b c = omega arith

-- small numbers
pub small_one : (a : ℕ) → a < none → Small (a ∷ [])
unfolding Small
small_one a h = (h, tt)

pub small_two : (a b : ℕ) → a < none → b < none → Small (a ∷ b ∷ [])
unfolding Small
small_two a b h i = (h, (i, tt))

pub small_three : (a b c : ℕ) → a < none → b < none → c < none → Small (a ∷ b ∷ c ∷ [])
unfolding Small
small_three a b c h i j = (h, (i, (j, tt)))

-- the record that has the key is the one that has its rank
pub by_key : (file : ℕ) (k : List ℕ) (x : Key) (rs : List Fields) → IsKeyed file → AllKeyed file rs → Small k → length k ≡ length (key_fields file) → rank_key x ≡ rank k
    → first_ranked (rank_of file) (rank_key x) 0 rs ≡ first_with file k 0 rs
by_key file k x rs f a small size e = rw e (sym (first_with_lem file k f small size 0 rs a))

-- A look back from a record: the first with its key stands before it, or no earlier one has its key.
module _ (file : ℕ) (s : List ℕ) (at : ℕ) (f : KeyFile file s) (q : PlaceIn file s at) (h : at < length s) (k : Key) (i : KeyIs (rank_of file (record_at file s at)) k) where
  look_back : (p : PlaceIn file s at) → has file (key_of file (record_at file s at)) p.past ≡ has_rank (rank_of file) (rank_key k) p.past
  look_back p =
      let key = key_of file (record_at file s at) in
      let here = key_here file s at f q h in
      has_rank_lem file key f.keyed (here_small file s at here) (key_size file (record_at file s at)) p.past (keys_past file s at f p)
      ∙ ap (λ (x : ℕ). has_rank (rank_of file) x p.past) (sym i.rank)

  pub back_at : (first : ℕ) → Some first ≡ first_ranked (rank_of file) (rank_key k) 0 (records_in (fields_of file) s) → (p : PlaceIn file s at)
      → ltb first at ≡ has file (key_of file (record_at file s at)) p.past
  back_at first e p =
      either (ltb first at)
      (λ t. t ∙ sym (look_back p ∙ back_hit (fields_of file) (rank_of file) s at (rank_key k) first p (sym e) (ltb-true first at t)))
      (λ t. t ∙ sym (look_back p ∙ back_miss (fields_of file) (rank_of file) s at (rank_key k) first p (sym e) (ltb-false first at t)))

  pub back_nothing : None ≡ first_ranked (rank_of file) (rank_key k) 0 (records_in (fields_of file) s) → (p : PlaceIn file s at)
      → false ≡ has file (key_of file (record_at file s at)) p.past
  back_nothing e p = sym (look_back p ∙ back_none (fields_of file) (rank_of file) s at (rank_key k) p (sym e))
