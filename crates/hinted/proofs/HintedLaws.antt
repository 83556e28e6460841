-- The look at a lent list, entry by entry, and what keys that rise from entry to entry say of the records of a file.
use mathlib.Core.Path.{◌≡◌, refl, sym, ap, ◌∙◌}
use mathlib.Core.Bool.{false}
use mathlib.Core.List.{List, [], ◌∷◌, ◌++◌}
use Prim.Native.Nat.{ℕ, ◌+◌, ◌-◌, ◌≤◌, ◌<◌}
use native.Mathlib.Omega.{arith}
use lib.Dec.{ltb}
use lib.ListN.{length, get_or, drop}
use borrow.Author.Count.{below_more}
use borrow.Author.Tests.{ltb-true, ltb-false}
use Rattle.laws.specs.Tests.{either}
use Rattle.file.specs.Files.{fields_of}
use Rattle.file.specs.Format.{Fields}
use Rattle.file.specs.Records.{records_in}
use Rattle.lines.specs.Index.{Start, Good}
use Rattle.lines.proofs.IndexLaws.{index_is, distinct_entries}
use Rattle.keys.specs.Keys.{key_fields, key_of, has}
use Rattle.keys.specs.Ranks.{AllKeyed, rank_of, rank_key, KeyIs, record_at}
use Rattle.keys.specs.KeyFiles.{KeyFile, PlaceIn, IsIndex, entry_rank}
use Rattle.keys.specs.declared.Key.{Key}
use Rattle.keys.proofs.KeyLaws.{key_size, key_small}
use Rattle.keys.proofs.KeyFileLaws.{key_here, has_rank_lem}
use Rattle.hinted.specs.Hinted.{KeysApart, Goes, Looked}

-- 0 says nothing
pub looked_none : (file : ℕ) (s order : List ℕ) → Looked file s order 0
looked_none file s order = record { index = λ q. absurd (omega arith); apart = λ q. absurd (omega arith) }

-- each record has a key: so have the first ones
keyed_init : (file : ℕ) (a b : List Fields) → AllKeyed file (a ++ b) → AllKeyed file a
unfolding AllKeyed
keyed_init file [] b h = tt
keyed_init file (r ∷ a) b h = (h.0, keyed_init file a b h.1)

module _ (file : ℕ) (s order : List ℕ) where
  -- an entry is right as far as is asked of each
  abbrev GoodEntry : ℕ → Type 0
  GoodEntry i = Good (fields_of file) (rank_of file) s order i

  abbrev StartsAt : ℕ → Type 0
  StartsAt x = Start (fields_of file) (rank_of file) s x

  -- what is known of the entries below i: `was` is the last of them, k its key, and `kind` what they are so far
  pub record Seen (was : ℕ) (k : Key) (kind i : ℕ) : Type 0 where
    pub some : 1 ≤ i
    pub near : i ≤ length order
    pub good : (j : ℕ) → j < i → GoodEntry j
    pub entry : get_or order (i - 1) 0 ≡ was
    pub key : KeyIs (entry_rank file s order (i - 1)) k
    pub apart : 2 ≤ kind → (j : ℕ) → j + 1 < i → entry_rank file s order j < entry_rank file s order (j + 1)

  -- the first entry
  pub seen_first : (k : Key) → 1 ≤ length order → StartsAt (get_or order 0 0) → KeyIs (entry_rank file s order 0) k
      → Seen (get_or order 0 0) k 2 1
  seen_first k h b e = record {
    some = omega arith;
    near = h;
    good = λ j l. let z : j ≡ 0 = omega arith in rw z (record { start = b; above = λ i q. absurd (omega arith) });
    entry = refl;
    key = e;
    apart = λ q j l. absurd (omega arith);
  }

  -- one more, which goes behind it
  module _ (was : ℕ) (j : Key) (kind i : ℕ) (seen : Seen was j kind i) (h : i < length order) where
    abbrev x : ℕ
    x = get_or order i 0

    -- the entry before this one
    last_rank : (a : ℕ) → a + 1 ≡ i → entry_rank file s order a ≡ rank_key j
    last_rank a e = let z : i - 1 ≡ a = omega arith in sym (seen.key.rank ∙ ap (entry_rank file s order) z)

    last_entry : (a : ℕ) → a + 1 ≡ i → get_or order a 0 ≡ was
    last_entry a e = let z : i - 1 ≡ a = omega arith in ap (λ (y : ℕ). get_or order y 0) (sym z) ∙ seen.entry

    pub seen_more : (k : Key) (how next : ℕ) → StartsAt x → KeyIs (entry_rank file s order i) k → Goes (rank_key j) was (rank_key k) x how
        → 1 ≤ how → next ≤ kind → next ≤ how → Seen x k next (i + 1)
    seen_more k how next b e g m p q =
        let z : i + 1 - 1 ≡ i = omega arith in
        record {
          some = omega arith;
          near = omega arith;
          good = below_more GoodEntry i seen.good
              (record { start = b; above = λ a l. omega (arith, last_rank a l, last_entry a l, e.rank, g.behind m) });
          entry = rw z;
          key = rw z e;
          apart = λ t a l.
              either (ltb (a + 1) i)
              (λ u. seen.apart (omega arith) a (ltb-true (a + 1) i u))
              (λ u.
              let y : a + 1 ≡ i = omega (arith, ltb-false (a + 1) i u) in
              rw y (omega (arith, last_rank a y, e.rank, g.above (omega arith))));
        }

  -- all of them
  pub seen_all : (was : ℕ) (k : Key) (kind i : ℕ) → length order ≡ length (records_in (fields_of file) s) → Seen was k kind i
      → length order ≤ i → Looked file s order kind
  seen_all was k kind i e seen h = record {
    index = λ q. index_is (fields_of file) (rank_of file) s order e (λ j l. seen.good j (omega arith));
    apart = λ q j l. seen.apart q j (omega (arith, seen.near));
  }

  -- an empty list is an index of a file with no records
  pub seen_none : length order ≡ length (records_in (fields_of file) s) → length order ≡ 0 → Looked file s order 2
  seen_none e z = record {
    index = λ q. index_is (fields_of file) (rank_of file) s order e (λ j l. absurd (omega arith));
    apart = λ q j l. absurd (omega arith);
  }

module _ (file : ℕ) (s order : List ℕ) (index : IsIndex file s order) (f : KeyFile file s) where
  -- keys that rise from entry to entry: no record has the key of an earlier one
  pub apart_once : KeysApart file s order → (at : ℕ) (p : PlaceIn file s at) → at < length s
      → has file (key_of file (record_at file s at)) p.past ≡ false
  apart_once apart at p h =
      let r = record_at file s at in
      let n = fields_of file in
      let up : (i j : ℕ) → i + 1 ≡ j → j < length order → entry_rank file s order i < entry_rank file s order j =
      λ i j e l. let g = apart i (omega arith) in rw e at g in
      let a = keyed_init file p.past (records_in n (drop at s)) (rw p.whole at f.keys) in
      let small = key_small (key_fields file) r (key_here file s at f p h).numbers in
      has_rank_lem file (key_of file r) f.keyed small (key_size file r) p.past a
      ∙ distinct_entries n (rank_of file) s order f.legal index up at p h
