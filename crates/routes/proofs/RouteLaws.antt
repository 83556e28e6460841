-- The way to a file's records: by rising keys, by an index, or record by record; and the numbers that are kept for it.
use mathlib.Core.Path.{◌≡◌, refl, ◌∙◌}
use mathlib.Core.List.{List}
use Prim.Native.Nat.{ℕ, ◌+◌, ◌*◌, ◌≤◌, ◌<◌}
use native.Mathlib.Omega.{arith}
use native.Mathlib.Decide.{ℕ_discrete}
use lib.ListN.{length, get_or, set, length-set}
use lib.Seq.{get_or-set_same, get_or-set_other}
use Rattle.laws.specs.Tests.{never}
use Rattle.keys.specs.KeyFiles.{KeyFile, KeysRise, IsIndex}
use Rattle.hinted.specs.Hinted.{KeysApart}
use Rattle.hinted.proofs.HintedLaws.{apart_once}
use Rattle.ordered.proofs.OrderedLaws.{rising_once}
use Rattle.thirteen.specs.Batch.{Batch, file_in}
use Rattle.lookup.specs.Ways.{part_of, Way, WayTo, Ways, how_of, from_of, to_of}

-- no part at all is no index
none_there : (order : List ℕ) → length (part_of order 0 0) ≡ 0
none_there order = refl

module _ (file : ℕ) (s order : List ℕ) (f : KeyFile file s) where
  pub way_rising : KeysRise file s → Way file s order 1 0 0
  way_rising up = record {
    ends = omega arith;
    near = omega arith;
    serves = record { keyed = f; up = λ e. up; index = λ h. absurd (omega (arith, none_there order)) };
    once = λ e. rising_once file s f up;
  }

  pub way_none : Way file s order 0 0 0
  way_none = record {
    ends = omega arith;
    near = omega arith;
    serves = record { keyed = f; up = λ e. never e; index = λ h. absurd (omega (arith, none_there order)) };
    once = λ e. never e;
  }

  module _ (from to : ℕ) (h : from ≤ to) (l : to ≤ length order) (i : IsIndex file s (part_of order from to)) where
    pub way_index : Way file s order 3 from to
    way_index = record { ends = h; near = l; serves = record { keyed = f; up = λ e. never e; index = λ j. i }; once = λ e. never e }

    pub way_apart : KeysApart file s (part_of order from to) → Way file s order 2 from to
    way_apart a = record {
      ends = h;
      near = l;
      serves = record { keyed = f; up = λ e. never e; index = λ j. i };
      once = λ e. apart_once file s (part_of order from to) i f a;
    }

-- the ways to the files below `file` are kept
abbrev pub WaysBelow : Batch → List ℕ → List ℕ → ℕ → Type 0
WaysBelow b order ways file = (k : ℕ) → 2 ≤ k → k < file → WayTo b order ways k

-- the three numbers of one more file
abbrev pub set_way : List ℕ → ℕ → ℕ → ℕ → ℕ → List ℕ
set_way ways file how from to = set (set (set ways (file * 3) how) (file * 3 + 1) from) (file * 3 + 2) to

pub set_way_size : (ways : List ℕ) (file how from to : ℕ) → length (set_way ways file how from to) ≡ length ways
set_way_size ways file how from to = simp length-set

-- what stands at a place that is none of the three
other : (ways : List ℕ) (file how from to i : ℕ) → (i ≡ file * 3 → ⊥) → (i ≡ file * 3 + 1 → ⊥) → (i ≡ file * 3 + 2 → ⊥) → get_or (set_way ways file how from to) i 0 ≡ get_or ways i 0
other ways file how from to i a b c =
    get_or-set_other (set (set ways (file * 3) how) (file * 3 + 1) from) (file * 3 + 2) i to 0 c
    ∙ get_or-set_other (set ways (file * 3) how) (file * 3 + 1) i from 0 b
    ∙ get_or-set_other ways (file * 3) i how 0 a

how_set : (ways : List ℕ) (file how from to : ℕ) → file * 3 + 2 < length ways → how_of (set_way ways file how from to) file ≡ how
how_set ways file how from to h =
    get_or-set_other (set (set ways (file * 3) how) (file * 3 + 1) from) (file * 3 + 2) (file * 3) to 0 (λ (e : file * 3 ≡ file * 3 + 2). omega arith)
    ∙ get_or-set_other (set ways (file * 3) how) (file * 3 + 1) (file * 3) from 0 (λ (e : file * 3 ≡ file * 3 + 1). omega arith)
    ∙ get_or-set_same ways (file * 3) how 0 (omega arith)

from_set : (ways : List ℕ) (file how from to : ℕ) → file * 3 + 2 < length ways → from_of (set_way ways file how from to) file ≡ from
from_set ways file how from to h =
    get_or-set_other (set (set ways (file * 3) how) (file * 3 + 1) from) (file * 3 + 2) (file * 3 + 1) to 0 (λ (e : file * 3 + 1 ≡ file * 3 + 2). omega arith)
    ∙ get_or-set_same (set ways (file * 3) how) (file * 3 + 1) from 0 (omega (arith, length-set ways (file * 3) how))

to_set : (ways : List ℕ) (file how from to : ℕ) → file * 3 + 2 < length ways → to_of (set_way ways file how from to) file ≡ to
to_set ways file how from to h =
    get_or-set_same (set (set ways (file * 3) how) (file * 3 + 1) from) (file * 3 + 2) to 0
    (omega (arith, length-set (set ways (file * 3) how) (file * 3 + 1) from, length-set ways (file * 3) how))

-- a way by the numbers that are kept
same_way : (file : ℕ) (s order : List ℕ) (how from to : ℕ) {h f t : ℕ} → h ≡ how → f ≡ from → t ≡ to → Way file s order how from to → Way file s order h f t
same_way file s order how from to a b c w = rw (a, b, c) w

-- one file more
pub ways_more : (b : Batch) (order ways : List ℕ) (file how from to : ℕ) → WaysBelow b order ways file → file * 3 + 2 < length ways
    → Way file (file_in b file) order how from to → WaysBelow b order (set_way ways file how from to) (file + 1)
ways_more b order ways file how from to w h new k l m = go (ℕ_discrete k file)
  where
    go : Dec (k ≡ file) → WayTo b order (set_way ways file how from to) k
    go (yes e) =
        rw e (same_way file (file_in b file) order how from to (how_set ways file how from to h) (from_set ways file how from to h) (to_set ways file how from to h) new)
    go (no e) =
        same_way k (file_in b k) order (how_of ways k) (from_of ways k) (to_of ways k)
        (other ways file how from to (k * 3) (λ z. e (omega arith)) (λ z. omega arith) (λ z. omega arith))
        (other ways file how from to (k * 3 + 1) (λ z. omega arith) (λ z. e (omega arith)) (λ z. omega arith))
        (other ways file how from to (k * 3 + 2) (λ z. omega arith) (λ z. omega arith) (λ z. e (omega arith)))
        (w k l (omega arith))

pub ways_all : (b : Batch) (order ways : List ℕ) (file : ℕ) → WaysBelow b order ways file → 11 ≤ file → Ways b order ways
ways_all b order ways file w h k f = w k f.0 (omega (arith, f.1))
