-- A search in an index step by step, and what the entry that it finds says of the records of a file by their keys.
use Rattle.std.specs.Prelude.{None, Some}
use mathlib.Core.Path.{◌≡◌, sym, ap, ◌∙◌}
use mathlib.Core.Bool.{Bool, true, false}
use mathlib.Core.List.{List}
use Prim.Native.Nat.{ℕ, ◌+◌, ◌^◌, ◌≤◌, ◌<◌}
use native.Mathlib.Omega.{arith}
use lib.Dec.{ltb}
use lib.ListN.{length, get_or}
use borrow.Author.Tests.{ltb-true, ltb-false}
use Rattle.laws.specs.Tests.{either}
use Rattle.file.specs.Files.{fields_of}
use Rattle.file.specs.Records.{records_in}
use Rattle.lines.specs.Order.{first_ranked}
use Rattle.lines.proofs.IndexLaws.{place_known, index_from, index_none, index_below, index_hit, index_miss}
use Rattle.keys.specs.Ranks.{rank_of, rank_key, KeyIs, record_at}
use Rattle.keys.specs.KeyFiles.{KeyFile, PlaceIn, IsIndex, entry_rank}
use Rattle.keys.specs.declared.Key.{Key}
use Rattle.seek.specs.Seek.{Lower, Between}

-- a key that is compared with x in place of its rank
pub below_by_key : {rank : ℕ} {k : Key} {r : Bool} (x : ℕ) → KeyIs rank k → r ≡ ltb (rank_key k) x → r ≡ ltb rank x
below_by_key x k e = e ∙ ap (λ (j : ℕ). ltb j x) k.rank

-- The first entry from x on stands between two: an entry between them that is looked at leaves it on one side, and where they meet it is.
module _ (file : ℕ) (s order : List ℕ) (x : ℕ) where
  -- nothing is known
  pub between_all : Between file s order x 0 (length order)
  between_all = record { ends = omega arith; near = omega arith; below = λ i h. absurd (omega arith); «from» = λ h. absurd (omega arith) }

  module _ (lo hi m : ℕ) (b : Between file s order x lo hi) (h : m < hi) where
    pub between_up : IsIndex file s order → {r : Bool} → r ≡ ltb (entry_rank file s order m) x → r ≡ true → Between file s order x (m + 1) hi
    between_up index e t = record {
      ends = omega arith;
      near = b.near;
      below = index_below (fields_of file) (rank_of file) s order x index m (omega (arith, b.near)) (ltb-true (entry_rank file s order m) x (sym e ∙ t));
      «from» = b.«from»;
    }

    pub between_down : lo ≤ m → {r : Bool} → r ≡ ltb (entry_rank file s order m) x → r ≡ false → Between file s order x lo m
    between_down g e t = record {
      ends = g;
      near = omega (arith, b.near);
      below = b.below;
      «from» = λ _. ltb-false (entry_rank file s order m) x (sym e ∙ t);
    }

  pub between_met : (lo hi : ℕ) → Between file s order x lo hi → hi ≤ lo → Lower file s order x lo
  between_met lo hi b h =
      let e : hi ≡ lo = omega (arith, b.ends) in
      record { near = omega (arith, b.near); below = b.below; «from» = rw e at b.«from» }

-- a record with the least key from some on, and of those with its key the first
pub record Least (file : ℕ) (s order : List ℕ) (m p : ℕ) : Type 0 where
  pub within : m < length order
  pub rank : entry_rank file s order m ≤ rank_of file (record_at file s p)
  pub first : entry_rank file s order m ≡ rank_of file (record_at file s p) → get_or order m 0 ≤ p

module _ (file : ℕ) (s order : List ℕ) (index : IsIndex file s order) where
  -- a record starts at each entry
  pub entry_place : (i : ℕ) → i < length order → PlaceIn file s (get_or order i 0) × (get_or order i 0 < length s)
  entry_place i h = ((index.start i h).place, (index.start i h).within)

  -- no record from x on has a lesser key than the first entry from x on, nor the same and an earlier place
  pub lower_least : (x m : ℕ) → Lower file s order x m → (p : ℕ) → PlaceIn file s p → p < length s → x ≤ rank_of file (record_at file s p)
      → Least file s order m p
  lower_least x m l p q h k =
      let n = fields_of file in
      let r = rank_of file in
      let i = place_known n r s p q h in
      let w = index.covers p i in
      let small : p < 2 ^ 32 = rw w.2 at (index.start w.0 w.1).small in
      let some : m < length order =
      either (ltb m (length order))
      (λ t. ltb-true m (length order) t)
      (λ t. absurd (omega (arith, k, index_none n r s order x index m l.below (ltb-false m (length order) t) p i))) in
      let o = index_from n r s order x index m l.below some p i k in
      record { within = some; rank = omega (arith, o, small); first = λ e. omega (arith, o, e) }

  module _ (f : KeyFile file s) where
    -- the first entry from x on has the rank x: it is the first record with it
    pub lower_hit : (x m : ℕ) → Lower file s order x m → m < length order → entry_rank file s order m ≡ x
        → first_ranked (rank_of file) x 0 (records_in (fields_of file) s) ≡ Some (get_or order m 0)
    lower_hit x m l h e = index_hit (fields_of file) (rank_of file) s order x index m l.below f.legal h e

    -- it has another, or there is none: no record has it
    pub lower_miss : (x m : ℕ) → Lower file s order x m → (m < length order → entry_rank file s order m ≡ x → ⊥)
        → first_ranked (rank_of file) x 0 (records_in (fields_of file) s) ≡ None
    lower_miss x m l g =
        index_miss (fields_of file) (rank_of file) s order x index m l.below f.legal
        (λ h. let ne = g h in omega (arith, l.«from» h, ne))
