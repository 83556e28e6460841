-- A record's fields one after another: where nothing is wrong with any that has a link, nothing is wrong with the record.
use mathlib.Core.Path.{◌≡◌, refl, sym, ◌∙◌}
use mathlib.Core.Bool.{Bool}
use mathlib.Core.List.{List, ◌∷◌}
use Prim.Native.Nat.{ℕ, zero, suc, ◌+◌, ◌-◌, ◌≤◌, ◌<◌}
use native.Mathlib.Omega.{arith}
use lib.Dec.{ltb, leb, leb→le}
use lib.ListN.{length, get_or-eq_default}
use borrow.Author.Tests.{eq-eqb, ne_eqb, ltb-true, ltb-false}
use Rattle.laws.specs.Below.{below}
use Rattle.laws.specs.Tests.{either}
use Rattle.file.specs.Files.{field_counts, fields_of}
use Rattle.file.specs.Format.{Fields}
use Rattle.walk.proofs.WalkLaws.{cut_size}
use Rattle.rules.specs.Texts.{texts}
use Rattle.link.specs.Links.{links_in}
use Rattle.link.specs.Stage.{amiss, first_amiss, field_amiss}
use Rattle.link.proofs.MatchLaws.{free_behind, links_few}
use Rattle.amiss.proofs.AmissLaws.{free_amiss}
use Rattle.thirteen.specs.Batch.{Batch}
use Rattle.tags.specs.Tags.{FreeBefore}

-- The fields of a record from f on, of n in all.
module _ (b : Batch) (file : ℕ) (r : Fields) (f n : ℕ) where
  -- nothing is wrong with field f
  pub amiss_turn : f ≤ n → amiss b file r f ≡ 0 → first_amiss b file r f (n + 1 - f) ≡ first_amiss b file r (f + 1) (n + 1 - (f + 1))
  unfolding first_amiss
  amiss_turn h e =
      let z : n + 1 - f ≡ suc (n + 1 - (f + 1)) = omega arith in
      rw (z, eq-eqb (amiss b file r f) 0 e)

  -- something is
  pub amiss_hit : f ≤ n → (amiss b file r f ≡ 0 → ⊥) → first_amiss b file r f (n + 1 - f) ≡ f
  unfolding first_amiss
  amiss_hit h e =
      let z : n + 1 - f ≡ suc (n + 1 - (f + 1)) = omega arith in
      rw (z, ne_eqb (amiss b file r f) 0 e)

  -- none are left
  pub amiss_done : n < f → first_amiss b file r f (n + 1 - f) ≡ 0
  unfolding first_amiss
  amiss_done h = let z : n + 1 - f ≡ 0 = omega arith in rw z

-- nothing is wrong with fields that have no link, so they may be left out
module _ (b : Batch) (file : ℕ) (r : Fields) where
  free_zero : (f : ℕ) → links_in file < f → amiss b file r f ≡ 0
  free_zero f h = sym (free_amiss b file f r (sym (free_behind file f h)))

  none_amiss : (f more : ℕ) → links_in file < f → first_amiss b file r f more ≡ 0
  unfolding first_amiss
  none_amiss f zero h = refl
  none_amiss f (suc more) h = rw (eq-eqb (amiss b file r f) 0 (free_zero f h)) (none_amiss (f + 1) more (omega arith))

  fewer_amiss : (f count more : ℕ) → links_in file < f + count → first_amiss b file r f (count + more) ≡ first_amiss b file r f count
  unfolding first_amiss
  fewer_amiss f zero more h = let e : 0 + more ≡ more = omega arith in rw e (none_amiss f more (omega arith))
  fewer_amiss f (suc count) more h =
      let e : suc count + more ≡ suc (count + more) = omega arith in
      rw (e, fewer_amiss (f + 1) count more (omega arith))

-- all fields of a record that was cut are left at first; those that have no link behind the last that has one don't count
pub amiss_start : (b : Batch) (file : ℕ) (s places : List ℕ) (n : ℕ) → n ≡ links_in file
    → first_amiss b file (texts file s places) 1 (n + 1 - 1) ≡ field_amiss b file (texts file s places)
amiss_start b file s places n e =
    let r = texts file s places in
    let z : n + 1 - 1 ≡ n = omega arith in
    let l : n + (length r - n) ≡ length r = omega (arith, cut_size (fields_of file) s places, links_few file) in
    rw (z, ← l) (sym (fewer_amiss b file r 1 n (length r - n) (omega arith)))

-- and those that have none before the first that has one
free_turns : (b : Batch) (file : ℕ) (r : Fields) (n k : ℕ) → FreeBefore file (k + 1) → k ≤ n
    → first_amiss b file r (k + 1) (n + 1 - (k + 1)) ≡ first_amiss b file r 1 (n + 1 - 1)
free_turns b file r n zero free h = refl
free_turns b file r n (suc k) free h =
    let z : suc k + 1 ≡ k + 1 + 1 = omega arith in
    rw z
    (sym (amiss_turn b file r (k + 1) n (omega arith) (sym (free_amiss b file (k + 1) r (free (k + 1) (omega arith)))))
    ∙ free_turns b file r n k (λ (i : ℕ) l. free i (omega arith)) (omega arith))

pub amiss_from : (b : Batch) (file : ℕ) (s places : List ℕ) (n f : ℕ) → n ≡ links_in file → 1 ≤ f → f ≤ n + 1 → FreeBefore file f
    → first_amiss b file (texts file s places) f (n + 1 - f) ≡ field_amiss b file (texts file s places)
amiss_from b file s places n f e low high free =
    let z : f ≡ f - 1 + 1 = omega arith in
    let g : FreeBefore file (f - 1 + 1) = λ (i : ℕ) l. free i (omega arith) in
    let t : first_amiss b file (texts file s places) f (n + 1 - f) ≡ first_amiss b file (texts file s places) 1 (n + 1 - 1) = rw z (free_turns b file (texts file s places) n (f - 1) g (omega arith)) in
    t ∙ amiss_start b file s places n e

-- no file has more than thirteen fields in a record
few : ℕ → Bool
few k = leb (fields_of k) 13

pub fields_few : (file : ℕ) → fields_of file ≤ 13
unfolding few fields_of field_counts
fields_few file =
    either (ltb file 14)
    (λ e. leb→le (fields_of file) 13 (below 14 few tt file (ltb-true file 14 e)))
    (λ e. let z : fields_of file ≡ 0 = get_or-eq_default (0 ∷ field_counts) 0 (ltb-false file 14 e) in omega arith)
