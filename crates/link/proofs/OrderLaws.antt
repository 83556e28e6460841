-- Document 01's order inside one record: the key, then fields rising, at one field 8 before 9.
use mathlib.Core.Path.{◌≡◌}
use mathlib.Core.Bool.{true, false}
use mathlib.Core.List.{List}
use Prim.Native.Nat.{ℕ, zero, suc, ◌+◌, ◌-◌, ◌≤◌, ◌<◌}
use native.Mathlib.Omega.{arith}
use lib.Dec.{eqb}
use lib.ListN.{length}
use borrow.Author.Tests.{eqb-true, ne_eqb}
use Rattle.laws.specs.Tests.{either}
use Rattle.laws.specs.Numbered.{Numbered, refused_in}
use Rattle.file.specs.Format.{Fields}
use Rattle.thirteen.specs.Batch.{Batch}
use Rattle.link.specs.Links.{link_of, met}
use Rattle.link.specs.Signs.{sign_stands}
use Rattle.link.specs.Stage.{is_used, amiss, first_amiss, field_amiss, record_fault}
use Rattle.link.proofs.FaultLaws.{Fine, amiss_none}

module _ (b : Batch) (file : ℕ) (r : Fields) where
  -- a link to nothing is 8, whatever the sign
  pub link_first : (f : ℕ) → met b (link_of file f) f r ≡ false → amiss b file r f ≡ 8
  unfolding amiss
  link_first f e = rw e

  -- a link that is met and whose sign doesn't fit is 9
  pub sign_next : (f : ℕ) → met b (link_of file f) f r ≡ true → sign_stands b file (link_of file f) f r ≡ false → amiss b file r f ≡ 9
  unfolding amiss
  sign_next f e d = rw (e, d)

  -- a used key is 7, whatever the fields
  pub key_first : (k : ℕ) (past : List Fields) (next : Numbered) → is_used file past r ≡ true → record_fault b file k past r next ≡ refused_in 7 file k 0
  unfolding record_fault
  key_first k past next e = rw e

  -- the field that is reported has something wrong with it
  pub field_next : (k : ℕ) (past : List Fields) (next : Numbered) (f : ℕ) → is_used file past r ≡ false → field_amiss b file r ≡ f → (f ≡ 0 → ⊥)
      → record_fault b file k past r next ≡ refused_in (amiss b file r f) file k f
  unfolding record_fault
  field_next k past next f u e n = rw (u, e, ne_eqb f 0 n)

  -- of a run of fields, those before the first with which something is wrong have number 0
  pub run_before : (f count i : ℕ) → f + i < first_amiss b file r f count → amiss b file r (f + i) ≡ 0
  unfolding first_amiss
  run_before f zero i h = absurd (omega arith)
  run_before f (suc count) zero h =
      let z : f + 0 ≡ f = omega arith in
      either (eqb (amiss b file r f) 0)
      (λ p. rw z (eqb-true (amiss b file r f) 0 p))
      (λ p. let l = rw p at h in absurd (omega arith))
  run_before f (suc count) (suc i) h =
      let z : f + suc i ≡ f + 1 + i = omega arith in
      either (eqb (amiss b file r f) 0)
      (λ p. rw z (run_before (f + 1) count i (rw (p, z) at h)))
      (λ p. let l = rw p at h in absurd (omega arith))

  -- so all fields before the one that is reported are fine
  pub fields_rise : (f : ℕ) → 1 ≤ f → f < field_amiss b file r → Fine b file f r
  fields_rise f h l =
      let z : 1 + (f - 1) ≡ f = omega arith in
      let m : 1 + (f - 1) < field_amiss b file r = omega arith in
      amiss_none b file r f (rw z at (run_before 1 (length r) (f - 1) m))
