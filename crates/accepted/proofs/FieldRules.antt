-- 5 and 6 find nothing in a file exactly if each field of each record is of its kind and each record keeps its file's rules.
use mathlib.Core.Path.{◌≡◌, refl, subst}
use mathlib.Core.Bool.{true}
use mathlib.Core.List.{List, [], ◌∷◌}
use Prim.Native.Nat.{ℕ, zero, suc, ◌+◌, ◌-◌, ◌≤◌, ◌<◌}
use native.Mathlib.Omega.{arith}
use lib.Dec.{eqb}
use lib.ListN.{length, get_or}
use borrow.Author.Tests.{eqb-true, eq-eqb}
use Rattle.laws.specs.Tests.{either}
use Rattle.file.specs.Files.{fields_of}
use Rattle.file.specs.Format.{Fields}
use Rattle.field.specs.Kinds.{kind_of, admits}
use Rattle.field.specs.Names.{field}
use Rattle.field.specs.Rules.{meets, stop_rule, firm_rule, line_rule, trip_stop_rule, time_code_rule, carrier_rule}
use Rattle.field.specs.Stage.{first_unkind, record_fault, faults_from, field_fault}
use Rattle.thirteen.specs.Batch.{Batch, records_of}
use Rattle.link.specs.Met.{Stands, Each}
use Rattle.link.proofs.SoundLaws.{All, all_at, ◌then◌}
use Rattle.link.proofs.TableLaws.{stands_length}

module _ (file : ℕ) where
  -- no field from f on is of another kind: each is of its own
  unkind_each : (f : ℕ) (ts : Fields) → 1 ≤ f → first_unkind file f ts ≡ 0 → (i : ℕ) → i < length ts → admits (kind_of file (f + i)) (get_or ts i []) ≡ true
  unfolding first_unkind
  unkind_each f [] h e i l = absurd (omega arith)
  unkind_each f (t ∷ ts) h e zero l =
      either (admits (kind_of file f) t)
      (λ p. let z : f + 0 ≡ f = omega arith in rw z p)
      (λ p. let z : f ≡ 0 = rw p at e in absurd (omega arith))
  unkind_each f (t ∷ ts) h e (suc i) l =
      either (admits (kind_of file f) t)
      (λ p. let z : f + suc i ≡ f + 1 + i = omega arith in rw z (unkind_each (f + 1) ts (omega arith) (rw p at e) i (omega arith)))
      (λ p. let z : f ≡ 0 = rw p at e in absurd (omega arith))

  -- and the other way
  each_unkind : (f : ℕ) (ts : Fields) → ((i : ℕ) → i < length ts → admits (kind_of file (f + i)) (get_or ts i []) ≡ true) → first_unkind file f ts ≡ 0
  unfolding first_unkind
  each_unkind f [] g = refl
  each_unkind f (t ∷ ts) g =
      let z : f + 0 ≡ f = omega arith in
      let p : admits (kind_of file f) t ≡ true = rw z at (g 0 (omega arith)) in
      rw p (each_unkind (f + 1) ts (λ i l. let y : f + suc i ≡ f + 1 + i = omega arith in rw y at (g (suc i) (omega arith))))

  -- a record is of its kinds and keeps the rules
  abbrev pub Fine : Fields → Type 0
  Fine r = (first_unkind file 1 r ≡ 0) × (meets file r ≡ true)

  -- nothing is found from record k on: each is fine
  faults_each : (k : ℕ) (rs : List Fields) → (faults_from file k rs).number ≡ 0 → (i : ℕ) → i < length rs → Fine (get_or rs i [])
  unfolding faults_from record_fault
  faults_each k [] e i l = absurd (omega arith)
  faults_each k (r ∷ rs) e zero l =
      either (eqb (first_unkind file 1 r) 0)
      (λ p. either (meets file r) (λ q. (eqb-true (first_unkind file 1 r) 0 p, q)) (λ q. let z = rw (p, q) at e in absurd (omega arith)))
      (λ p. let z = rw p at e in absurd (omega arith))
  faults_each k (r ∷ rs) e (suc i) l =
      either (eqb (first_unkind file 1 r) 0)
      (λ p. either (meets file r) (λ q. faults_each (k + 1) rs (rw (p, q) at e) i (omega arith)) (λ q. let z = rw (p, q) at e in absurd (omega arith)))
      (λ p. let z = rw p at e in absurd (omega arith))

  -- and the other way
  each_faults : (k : ℕ) (rs : List Fields) → ((i : ℕ) → i < length rs → Fine (get_or rs i [])) → (faults_from file k rs).number ≡ 0
  unfolding faults_from record_fault
  each_faults k [] g = refl
  each_faults k (r ∷ rs) g =
      let f = g 0 (omega arith) in
      rw (eq-eqb (first_unkind file 1 r) 0 f.0, f.1) (each_faults (k + 1) rs (λ i l. g (suc i) (omega arith)))

-- the fields of a record are of their kinds, as the rule says it
abbrev pub OfKinds : ℕ → Fields → Type 0
OfKinds file r = (f : ℕ) → 1 ≤ f → f ≤ fields_of file → admits (kind_of file f) (field f r) ≡ true

module _ (b : Batch) (file : ℕ) where
  -- 5 and 6 find nothing in a file: what they asked for holds
  pub kinds_kept : (field_fault file (records_of b file)).number ≡ 0 → Each b file (λ r. OfKinds file r)
  kinds_kept e r s f h l =
      let z : 1 + (f - 1) ≡ f = omega arith in
      let x = (subst (Fine file) s.2 (faults_each file 1 (records_of b file) e s.0 s.1)).0 in
      rw z at (unkind_each file 1 r (omega arith) x (f - 1) (omega (arith, stands_length b file r s)))

  pub rules_kept : (field_fault file (records_of b file)).number ≡ 0 → Each b file (λ r. meets file r ≡ true)
  rules_kept e r s = (subst (Fine file) s.2 (faults_each file 1 (records_of b file) e s.0 s.1)).1

  -- and where it holds they find nothing
  pub kept_fields : Each b file (λ r. OfKinds file r) → Each b file (λ r. meets file r ≡ true) → (field_fault file (records_of b file)).number ≡ 0
  kept_fields k m =
      each_faults file 1 (records_of b file)
      (λ i l.
      let r = get_or (records_of b file) i [] in
      let s : Stands b file r = (i, l, refl) in
      let z = stands_length b file r s in
      (each_unkind file 1 r (λ j h. let y : 1 + j - 1 ≡ j = omega arith in rw y at (k r s (1 + j) (omega arith) (omega arith))), m r s))

-- the rules of the six files that have some, and of all
module _ (b : Batch) where
  pub record Rules : Type 0 where
    pub stop_rule_kept : Each b 2 (λ r. stop_rule r ≡ true)
    pub firm_rule_kept : Each b 4 (λ r. firm_rule r ≡ true)
    pub line_rule_kept : Each b 5 (λ r. line_rule r ≡ true)
    pub trip_stop_rule_kept : Each b 8 (λ r. trip_stop_rule r ≡ true)
    pub time_code_rule_kept : Each b 10 (λ r. time_code_rule r ≡ true)
    pub carrier_rule_kept : Each b 11 (λ r. carrier_rule r ≡ true)

  pub all_rules : ((file : ℕ) → 2 ≤ file → file ≤ 13 → Each b file (λ r. meets file r ≡ true)) → Rules
  unfolding meets
  all_rules m =
      record {
        stop_rule_kept = m 2 (omega arith) (omega arith);
        firm_rule_kept = m 4 (omega arith) (omega arith);
        line_rule_kept = m 5 (omega arith) (omega arith);
        trip_stop_rule_kept = m 8 (omega arith) (omega arith);
        time_code_rule_kept = m 10 (omega arith) (omega arith);
        carrier_rule_kept = m 11 (omega arith) (omega arith);
      }

  every : Rules → All (λ file. Each b file (λ r. meets file r ≡ true)) 2 12
  unfolding meets
  every k =
      k.stop_rule_kept
      then (λ r s. refl)
      then k.firm_rule_kept
      then k.line_rule_kept
      then (λ r s. refl)
      then (λ r s. refl)
      then k.trip_stop_rule_kept
      then (λ r s. refl)
      then k.time_code_rule_kept
      then k.carrier_rule_kept
      then (λ r s. refl)
      then (λ r s. refl)
      then tt

  pub rules_all : Rules → (file : ℕ) → 2 ≤ file → file ≤ 13 → Each b file (λ r. meets file r ≡ true)
  rules_all k file h l =
      let z : 2 + (file - 2) ≡ file = omega arith in
      subst (λ (n : ℕ). Each b n (λ r. meets n r ≡ true)) z (all_at (λ n. Each b n (λ r. meets n r ≡ true)) 2 12 (every k) (file - 2) (omega arith))
