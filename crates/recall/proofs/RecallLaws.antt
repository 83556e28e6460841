-- The table of tags: what stands in it is so, and a tag that was found to be so may be put into it.
use mathlib.Core.Path.{◌≡◌, refl, sym, subst, ◌∙◌}
use mathlib.Core.List.{List}
use Prim.Native.Nat.{ℕ, zero, suc, ◌≤◌, ◌<◌}
use native.Mathlib.Omega.{arith}
use native.Mathlib.Decide.{ℕ_discrete}
use lib.ListN.{length, get_or, set, replicate, length-set}
use lib.Seq.{get_or-set_same, get_or-set_other}
use borrow.Author.Tests.{eqb-true, eq-eqb}
use Rattle.file.specs.Format.{Fields}
use Rattle.link.specs.Stage.{amiss}
use Rattle.thirteen.specs.Batch.{Batch}
use Rattle.tags.specs.Tags.{fine, Tagged}
use Rattle.tags.proofs.TagLaws.{tag_kind}
use Rattle.recall.specs.Recall.{Holds, Recalls}

-- 0 is the tag of nothing
zero_holds : (b : Batch) → Holds b 0
unfolding fine
zero_holds b kind a x p q e = let z : kind ≡ 0 = omega arith in rw z

-- the tag of a field
module _ (b : Batch) (file f : ℕ) (r : Fields) (t : ℕ) (g : Tagged file f r t) where
  -- it holds: nothing is wrong
  holds_right : Holds b t → amiss b file r f ≡ 0
  holds_right h = eqb-true (amiss b file r f) 0 (sym (g.means b) ∙ h g.kind g.first g.number g.least g.small g.is)

  -- nothing is wrong: it holds
  right_holds : amiss b file r f ≡ 0 → Holds b t
  right_holds e kind a x p q d =
      let s = tag_kind g.kind g.first g.number kind a x g.least g.small p q (sym g.is ∙ d) in
      rw (← s.0, ← s.1, ← s.2) (g.means b ∙ eq-eqb (amiss b file r f) 0 e)

  pub none_asked : t ≡ 0 → amiss b file r f ≡ 0
  none_asked z = holds_right (rw z (zero_holds b))

  module _ (table : List ℕ) (h : Recalls b table) (i : ℕ) where
    -- it stands in the table
    pub recalled : get_or table i 0 ≡ t → amiss b file r f ≡ 0
    recalled e = holds_right (subst (λ (x : ℕ). Holds b x) e (h.each i))

    -- it is put there
    pub remembered : i < length table → amiss b file r f ≡ 0 → Recalls b (set table i t)
    remembered l e = record { size = rw (length-set table i t) h.size; each = λ k. go k (ℕ_discrete k i) }
      where
        go : (k : ℕ) → Dec (k ≡ i) → Holds b (get_or (set table i t) k 0)
        go k (yes d) = subst (λ (x : ℕ). Holds b x) (sym (rw d (get_or-set_same table i t 0 l))) (right_holds e)
        go k (no d) = subst (λ (x : ℕ). Holds b x) (sym (get_or-set_other table i k t 0 d)) (h.each k)

-- zeros and nothing else
pub zeros : (n i : ℕ) → get_or {A = ℕ} (replicate n 0) i 0 ≡ 0
zeros zero i = refl
zeros (suc n) zero = refl
zeros (suc n) (suc i) = zeros n i

-- nothing is remembered at first
pub recalls_zeros : (b : Batch) (n : ℕ) → 4093 ≤ length {A = ℕ} (replicate n 0) → Recalls b (replicate n 0)
recalls_zeros b n h = record { size = h; each = λ i. subst (λ (x : ℕ). Holds b x) (sym (zeros n i)) (zero_holds b) }
