-- The stage finds nothing exactly if each record of each file is clean: no earlier record has its key, the link of each of its fields is
-- met, and the sign of each fits. A fault's number is 7, 8 or 9, so a file whose fault has number 0 has none, and the next file's counts.
use mathlib.Core.Path.{◌≡◌, refl, sym, ap, ◌∙◌}
use mathlib.Core.Bool.{Bool, true, false}
use mathlib.Core.List.{List, [], ◌∷◌, ◌++◌, append-nil, append_assoc}
use Prim.Native.Nat.{ℕ, zero, suc, ◌+◌, ◌-◌, ◌≤◌, ◌<◌}
use native.Mathlib.Omega.{arith}
use lib.Dec.{eqb}
use lib.ListN.{length, get_or, take}
use borrow.Author.Tests.{eqb-true, eqb-false, eq-eqb}
use Rattle.laws.specs.Tests.{pick, either}
use Rattle.laws.specs.Numbered.{Numbered, answered}
use Rattle.file.specs.Format.{Fields}
use Rattle.thirteen.proofs.OverLaws.{over_each}
use Rattle.thirteen.specs.Batch.{Batch, records_of, over_files}
use Rattle.link.specs.Links.{link_of, met}
use Rattle.link.specs.Signs.{sign_stands}
use Rattle.link.specs.declared.Link.{Link}
use Rattle.link.specs.Stage.{is_used, amiss, first_amiss, field_amiss, record_fault, faults_from, link_fault, links_fault}

-- field f as such a link: it is met, and its sign fits
abbrev pub Fits : Batch → ℕ → Link → ℕ → Fields → Type 0
Fits b file link f r = (met b link f r ≡ true) × (sign_stands b file link f r ≡ true)

-- nothing is wrong with field f
abbrev pub Fine : Batch → ℕ → ℕ → Fields → Type 0
Fine b file f r = Fits b file (link_of file f) f r

-- nothing is wrong with a record behind these
abbrev pub Clean : Batch → ℕ → List Fields → Fields → Type 0
Clean b file past r = (is_used file past r ≡ false) × ((f : ℕ) → 1 ≤ f → f ≤ length r → Fine b file f r)

-- nor with a file
abbrev pub CleanFile : Batch → ℕ → Type 0
CleanFile b file = (i : ℕ) → i < length (records_of b file) → Clean b file (take i (records_of b file)) (get_or (records_of b file) i [])

module _ (b : Batch) (file : ℕ) (r : Fields) where
  -- what is wrong with a field has number 0 exactly if nothing is
  pub amiss_none : (f : ℕ) → amiss b file r f ≡ 0 → Fine b file f r
  unfolding amiss
  amiss_none f e = go (met b (link_of file f) f r) (sign_stands b file (link_of file f) f r) e
    where
      go : (m s : Bool) → pick {A = ℕ} m (pick s 0 9) 8 ≡ 0 → (m ≡ true) × (s ≡ true)
      go true true h = (refl, refl)
      go true false h = absurd (omega arith)
      go false s h = absurd (omega arith)

  -- the other way: a field with which nothing is wrong has number 0
  pub none_amiss : (f : ℕ) → Fine b file f r → amiss b file r f ≡ 0
  unfolding amiss
  none_amiss f e = rw (e.0, e.1)

  -- no field of a run is the first with which something is wrong exactly if nothing is wrong with each
  pub first_turn : (f count : ℕ) → 1 ≤ f → first_amiss b file r f (suc count) ≡ 0
      → (amiss b file r f ≡ 0) × (first_amiss b file r (f + 1) count ≡ 0)
  unfolding first_amiss
  first_turn f count h e =
      either (eqb (amiss b file r f) 0)
      (λ p. (eqb-true (amiss b file r f) 0 p, rw p at e))
      (λ p. let z : f ≡ 0 = rw p at e in absurd (omega arith))

  -- none is the first, so each has number 0
  pub first_none : (f count : ℕ) → 1 ≤ f → first_amiss b file r f count ≡ 0 → (i : ℕ) → i < count → amiss b file r (f + i) ≡ 0
  first_none f zero h e i l = absurd (omega arith)
  first_none f (suc count) h e zero l = let z : f + 0 ≡ f = omega arith in rw z (first_turn f count h e).0
  first_none f (suc count) h e (suc i) l =
      let z : f + suc i ≡ f + 1 + i = omega arith in
      rw z (first_none (f + 1) count (omega arith) (first_turn f count h e).1 i (omega arith))

  -- each has number 0, so none is the first
  pub none_first : (f count : ℕ) → ((i : ℕ) → i < count → amiss b file r (f + i) ≡ 0) → first_amiss b file r f count ≡ 0
  unfolding first_amiss
  none_first f zero h = refl
  none_first f (suc count) h =
      let z : f + 0 ≡ f = omega arith in
      let p : amiss b file r f ≡ 0 = rw z at (h 0 (omega arith)) in
      rw (eq-eqb (amiss b file r f) 0 p)
      (none_first (f + 1) count
      (λ i l. let y : f + suc i ≡ f + 1 + i = omega arith in rw y at (h (suc i) (omega arith))))

  -- with the first, something is wrong
  pub first_wrong : (f count : ℕ) → (first_amiss b file r f count ≡ 0 → ⊥) → amiss b file r (first_amiss b file r f count) ≡ 0 → ⊥
  unfolding first_amiss
  first_wrong f zero h e = h refl
  first_wrong f (suc count) h e =
      either (eqb (amiss b file r f) 0)
      (λ p. first_wrong (f + 1) count (rw p at h) (rw p at e))
      (λ p. eqb-false (amiss b file r f) 0 p (rw p at e))

  -- a record with no first such field has fields that are all fine
  pub fields_none : field_amiss b file r ≡ 0 → (f : ℕ) → 1 ≤ f → f ≤ length r → Fine b file f r
  fields_none e f h l =
      let z : 1 + (f - 1) ≡ f = omega arith in
      amiss_none f (rw z at (first_none 1 (length r) (omega arith) e (f - 1) (omega arith)))

  -- a record whose fields are all fine has none
  pub none_fields : ((f : ℕ) → 1 ≤ f → f ≤ length r → Fine b file f r) → field_amiss b file r ≡ 0
  none_fields h = none_first 1 (length r) (λ i l. none_amiss (1 + i) (h (1 + i) (omega arith) (omega arith)))

module _ (b : Batch) (file k : ℕ) (past : List Fields) (r : Fields) (next : Numbered) where
  -- a record is clean where its fault has number 0, and what counts is what `next` says
  pub record_clean : (record_fault b file k past r next).number ≡ 0 → Clean b file past r × (record_fault b file k past r next ≡ next)
  unfolding record_fault
  record_clean e =
      either (is_used file past r)
      (λ u. let z = rw u at e in absurd (omega arith))
      (λ u.
      either (eqb (field_amiss b file r) 0)
      (λ p. ((u, fields_none b file r (eqb-true (field_amiss b file r) 0 p)), rw (u, p)))
      (λ p. absurd (first_wrong b file r 1 (length r) (eqb-false (field_amiss b file r) 0 p) (rw (u, p) at e))))

  -- and the other way
  pub clean_record : Clean b file past r → record_fault b file k past r next ≡ next
  unfolding record_fault
  clean_record c = rw (c.0, eq-eqb (field_amiss b file r) 0 (none_fields b file r c.1))

module _ (b : Batch) (file : ℕ) where
  -- a file's records, by number: no fault but `answered []` has number 0
  pub faults_settled : (k : ℕ) (past rs : List Fields) → (faults_from b file k past rs).number ≡ 0 → faults_from b file k past rs ≡ answered []
  unfolding faults_from
  faults_settled k past [] e = refl
  faults_settled k past (r ∷ rs) e =
      let next = faults_from b file (k + 1) (past ++ (r ∷ [])) rs in
      let c : record_fault b file k past r next ≡ next = (record_clean b file k past r next e).1 in
      c ∙ faults_settled (k + 1) (past ++ (r ∷ [])) rs (rw c at e)

  -- each is clean where they have no fault
  pub faults_clean : (k : ℕ) (past rs : List Fields) → faults_from b file k past rs ≡ answered []
      → (i : ℕ) → i < length rs → Clean b file (past ++ take i rs) (get_or rs i [])
  unfolding faults_from
  faults_clean k past [] e i l = absurd (omega arith)
  faults_clean k past (r ∷ rs) e zero l =
      let next = faults_from b file (k + 1) (past ++ (r ∷ [])) rs in
      rw (append-nil past) (record_clean b file k past r next (ap (λ (n : Numbered). n.number) e)).0
  faults_clean k past (r ∷ rs) e (suc i) l =
      let next = faults_from b file (k + 1) (past ++ (r ∷ [])) rs in
      let c : record_fault b file k past r next ≡ next = (record_clean b file k past r next (ap (λ (n : Numbered). n.number) e)).1 in
      let d = faults_clean (k + 1) (past ++ (r ∷ [])) rs (sym c ∙ e) i (omega arith) in
      rw (append_assoc past (r ∷ []) (take i rs)) at d

  -- and the other way
  pub clean_faults : (k : ℕ) (past rs : List Fields) → ((i : ℕ) → i < length rs → Clean b file (past ++ take i rs) (get_or rs i []))
      → faults_from b file k past rs ≡ answered []
  unfolding faults_from
  clean_faults k past [] h = refl
  clean_faults k past (r ∷ rs) h =
      let next = faults_from b file (k + 1) (past ++ (r ∷ [])) rs in
      let c : Clean b file past r = rw (append-nil past) at (h 0 (omega arith)) in
      clean_record b file k past r next c
      ∙ clean_faults (k + 1) (past ++ (r ∷ [])) rs
      (λ i l. rw (append_assoc past (r ∷ []) (take i rs)) (h (suc i) (omega arith)))

  -- no file's fault but `answered []` has number 0
  pub file_settled : (link_fault b file).number ≡ 0 → link_fault b file ≡ answered []
  unfolding link_fault
  file_settled e = faults_settled 1 [] (records_of b file) e

  -- each record of a file without a fault is clean
  pub file_clean : link_fault b file ≡ answered [] → CleanFile b file
  unfolding link_fault
  file_clean e i l = faults_clean 1 [] (records_of b file) e i l

  -- a file whose records are all clean has no fault
  pub clean_file : CleanFile b file → link_fault b file ≡ answered []
  unfolding link_fault
  clean_file h = clean_faults 1 [] (records_of b file) h

-- each of several files has no fault where the first fault of all is none, if no file's fault but `answered []` has number 0
pub over_none : (fault : ℕ → Numbered) → ((file : ℕ) → (fault file).number ≡ 0 → fault file ≡ answered [])
    → (file count : ℕ) → over_files fault file count ≡ answered [] → (i : ℕ) → i < count → fault (file + i) ≡ answered []
over_none fault settled file count e i l = settled (file + i) (over_each fault file count (ap (λ (n : Numbered). n.number) e) i l)

-- and the other way
pub none_over : (fault : ℕ → Numbered) (file count : ℕ) → ((i : ℕ) → i < count → fault (file + i) ≡ answered []) → over_files fault file count ≡ answered []
unfolding over_files
none_over fault file zero h = refl
none_over fault file (suc count) h =
    let z : file + 0 ≡ file = omega arith in
    let p : fault file ≡ answered [] = rw z at (h 0 (omega arith)) in
    rw p
    (none_over fault (file + 1) count (λ i l. let y : file + suc i ≡ file + 1 + i = omega arith in rw y at (h (suc i) (omega arith))))

-- the batch, files 2 to 13: each is clean where there is no fault
pub links_clean : (b : Batch) → links_fault b ≡ answered [] → (file : ℕ) → 2 ≤ file → file ≤ 13 → CleanFile b file
unfolding links_fault
links_clean b e file h l =
    let z : 2 + (file - 2) ≡ file = omega arith in
    file_clean b file (rw z at (over_none (link_fault b) (file_settled b) 2 12 e (file - 2) (omega arith)))

-- a batch whose files are all clean has none
pub clean_links : (b : Batch) → ((file : ℕ) → 2 ≤ file → file ≤ 13 → CleanFile b file) → links_fault b ≡ answered []
unfolding links_fault
clean_links b h = none_over (link_fault b) 2 12 (λ i l. clean_file b (2 + i) (h (2 + i) (omega arith) (omega arith)))
