-- Demand 2: a batch is accepted exactly when it meets the rules of document 01. The order in which they are tried decides only which fault is named.
use mathlib.Core.Path.{◌≡◌, refl, sym, ap, ◌∙◌}
use mathlib.Core.Bool.{true, false}
use mathlib.Core.List.{List, []}
use mathlib.Core.Logic.{◌↔◌}
use Prim.Native.Nat.{ℕ, ◌+◌, ◌-◌, ◌≤◌, ◌<◌}
use native.Mathlib.Omega.{arith}
use lib.Dec.{eqb}
use lib.ListN.{length, get_or}
use borrow.Author.Tests.{eqb-true}
use Rattle.laws.specs.Tests.{either}
use Rattle.laws.specs.Numbered.{Numbered, answered}
use Rattle.file.specs.Format.{Fields}
use Rattle.field.specs.Stage.{field_fault}
use Rattle.thirteen.specs.Batch.{Batch, records_of, over_files}
use Rattle.thirteen.proofs.OverLaws.{over_each}
use Rattle.link.specs.Met.{Stands, Linking}
use Rattle.link.specs.Stage.{links_fault}
use Rattle.link.proofs.LinkingLaws.{linked}
use Rattle.link.proofs.SignedLaws.{signed}
use Rattle.link.proofs.SoundLaws.{links_sound}
use Rattle.trip.specs.Stage.{trips_fault}
use Rattle.trip.specs.Stops.{timed, passes}
use Rattle.trips.specs.Standing.{Standing}
use Rattle.kept.proofs.TripDays.{days_exactly}
use Rattle.kept.proofs.TripStops.{stops_exactly}
use Rattle.kept.proofs.RuleLaws.{rule_no_pass}
use Rattle.fault.proofs.OneResult.{fault_no_values}
use Rattle.filefaults.specs.Faults.{version_fault}
use Rattle.overfiles.specs.OneFile.{length_fault, bytes_fault}
use Rattle.overfiles.proofs.FileLaws.{not_long}
use Rattle.filestages.specs.Order.{first_fault, file_stages}
use Rattle.filestages.proofs.OrderLaws.{first_each}
use Rattle.batch.specs.Order.{stages, fault_of}
use Rattle.outcome.specs.Answers.{numbered_verdict}
use Rattle.outcome.specs.declared.Verdict.{Verdict}
use Rattle.batch.specs.Verdicts.{counts_of, verdict_of, VerdictIs}
use Rattle.batch.proofs.AcceptedLaws.{no_links, stands}
use Rattle.accepted.specs.Keeps.{Keeps}
use Rattle.accepted.specs.Verdicts.{IsAccepted}
use Rattle.accepted.proofs.FileRules.{each_over, kept_length, bytes_kept, kept_bytes, version_kept, kept_version}
use Rattle.accepted.proofs.FieldRules.{Rules, kinds_kept, rules_kept, kept_fields, all_rules, rules_all}
use Rattle.accepted.proofs.TripRules.{trips_kept, kept_trips}

-- a fault of files from one on is that of each of them
at_file : (fault : ℕ → Numbered) (from count : ℕ) → (over_files fault from count).number ≡ 0 → (file : ℕ) → from ≤ file → file < from + count → (fault file).number ≡ 0
at_file fault from count e file h l =
    let z : from + (file - from) ≡ file = omega arith in
    rw z at (over_each fault from count e (file - from) (omega arith))

-- no record of Zasspoje that keeps its rule has both a time and a pass
no_pass : (b : Batch) → Rules b → (q : Fields) → Stands b 8 q → timed q ≡ true → passes q ≡ false
no_pass b k q s t = rule_no_pass q (k.trip_stop_rule_kept q s) t

-- the stages find nothing: the batch keeps every rule
keeps : (b : Batch) → (fault_of b).number ≡ 0 → Keeps b
unfolding fault_of stages file_stages
keeps b e =
    let zero-at : (i : ℕ) → i < length (stages b) → (get_or (stages b) i (answered [])).number ≡ 0 = first_each (stages b) e in
    let fields : (file : ℕ) → 2 ≤ file → file ≤ 13 → (field_fault file (records_of b file)).number ≡ 0 =
    λ file h l. at_file (λ file. field_fault file (records_of b file)) 2 12 (zero-at 3 (omega arith)) file h (omega arith) in
    let rules : Rules b = all_rules b (λ file h l. rules_kept b file (fields file h l)) in
    let none : links_fault b ≡ answered [] = no_links b (zero-at 4 (omega arith)) in
    let k : Linking b = linked b none in
    let trips = trips_kept b (zero-at 5 (omega arith)) in
    record {
      lengths = λ file h l. not_long b file (at_file (length_fault b) 1 13 (zero-at 0 (omega arith)) file h (omega arith));
      legal = λ file h l. bytes_kept b file h l (at_file (bytes_fault b) 1 13 (zero-at 1 (omega arith)) file h (omega arith));
      version = version_kept b (zero-at 2 (omega arith));
      kinds = λ file h l. kinds_kept b file (fields file h l);
      stop_rule_kept = rules.stop_rule_kept;
      firm_rule_kept = rules.firm_rule_kept;
      line_rule_kept = rules.line_rule_kept;
      trip_stop_rule_kept = rules.trip_stop_rule_kept;
      time_code_rule_kept = rules.time_code_rule_kept;
      carrier_rule_kept = rules.carrier_rule_kept;
      linking = k;
      signs = signed b none;
      days = λ r s. (days_exactly b r s k.trips_key k.codes_key).0 (trips r s).0;
      stops = λ r s. (stops_exactly b r s k.trip_stops_key (no_pass b rules)).0 (trips r s).1;
    }

-- a batch that keeps every rule: the stages find nothing
no_fault : (b : Batch) → Keeps b → (fault_of b).number ≡ 0
unfolding fault_of stages file_stages first_fault
no_fault b k =
    let rules : Rules b = record {
      stop_rule_kept = k.stop_rule_kept;
      firm_rule_kept = k.firm_rule_kept;
      line_rule_kept = k.line_rule_kept;
      trip_stop_rule_kept = k.trip_stop_rule_kept;
      time_code_rule_kept = k.time_code_rule_kept;
      carrier_rule_kept = k.carrier_rule_kept;
    } in
    let e0 : (over_files (length_fault b) 1 13).number ≡ 0 = each_over (length_fault b) 1 13 (λ i l. kept_length b (1 + i) (k.lengths (1 + i) (omega arith) (omega arith))) in
    let e1 : (over_files (bytes_fault b) 1 13).number ≡ 0 = each_over (bytes_fault b) 1 13 (λ i l. kept_bytes b (1 + i) (omega arith) (omega arith) (k.legal (1 + i) (omega arith) (omega arith))) in
    let e2 : (version_fault (records_of b 1)).number ≡ 0 = kept_version (records_of b 1) k.version in
    let e3 : (over_files (λ file. field_fault file (records_of b file)) 2 12).number ≡ 0 =
    each_over (λ file. field_fault file (records_of b file)) 2 12
    (λ i l. kept_fields b (2 + i) (k.kinds (2 + i) (omega arith) (omega arith)) (rules_all b rules (2 + i) (omega arith) (omega arith))) in
    let e4 : (links_fault b).number ≡ 0 = ap (λ (a : Numbered). a.number) (links_sound b k.linking k.signs) in
    let e5 : (trips_fault b).number ≡ 0 =
    kept_trips b
    (λ r s.
    ((days_exactly b r s k.linking.trips_key k.linking.codes_key).1 (k.days r s), (stops_exactly b r s k.linking.trip_stops_key (no_pass b rules)).1 (k.stops r s))) in
    rw (e0, e1, e2, e3, e4, e5)

-- the verdict is the fault's, or has four values
verdict_fault : (b : Batch) → (verdict_of b).number ≡ 0 → (fault_of b).number ≡ 0
unfolding verdict_of
verdict_fault b e = either (eqb (fault_of b).number 0) (λ p. eqb-true (fault_of b).number 0 p) (λ p. rw p at e)

verdict_counts : (b : Batch) → (fault_of b).number ≡ 0 → verdict_of b ≡ answered (counts_of b)
unfolding verdict_of
verdict_counts b e = rw e

-- a refusal is no verdict of a batch without fault
not_refused : (b : Batch) (v : Verdict) → VerdictIs b v → (fault_of b).number ≡ 0 → IsAccepted v
unfolding numbered_verdict IsAccepted counts_of
not_refused b (Verdict.Accepted c) i e = tt
not_refused b (Verdict.Refused f) i e =
    let z : [] ≡ counts_of b = sym (fault_no_values f) ∙ ap (λ (a : Numbered). a.values) (i ∙ verdict_counts b e) in
    let y : length {A = ℕ} [] ≡ length (counts_of b) = ap (λ (vs : List ℕ). length vs) z in
    absurd (omega arith)

is_zero : (v : Verdict) → IsAccepted v → (numbered_verdict v).number ≡ 0
unfolding numbered_verdict IsAccepted
is_zero (Verdict.Accepted c) a = refl
is_zero (Verdict.Refused f) a = absurd a

-- what the check answers, whatever it is, is Accepted exactly if the batch keeps every rule
pub accepted_exactly : (b : Batch) (v : Verdict) → VerdictIs b v → IsAccepted v ↔ Keeps b
accepted_exactly b v i =
    (λ a. keeps b (verdict_fault b (sym (ap (λ (a : Numbered). a.number) i) ∙ is_zero v a)), λ k. not_refused b v i (no_fault b k))

-- and a batch that is accepted stands, so that its trips may be asked for without another check
pub accepted_standing : (b : Batch) (v : Verdict) → VerdictIs b v → IsAccepted v → Standing b
accepted_standing b v i a = stands b (verdict_fault b (sym (ap (λ (a : Numbered). a.number) i) ∙ is_zero v a))
