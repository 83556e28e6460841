-- `fields::first_fault` meets its contract. The loop's invariant: the first fault from the record at `at` on, which is record k, is the
-- first of all.
use mathlib.Core.Path.{◌≡◌}
use Prim.Native.Nat.{◌+◌, ◌-◌, ◌≤◌}
use lib.ListN.{length, drop}
use Rattle.file.specs.Records.{records_in}
use Rattle.walk.specs.Walk.{LegalFrom}
use Rattle.field.specs.Stage.{faults_from}
use Rattle.fields.proofs.first_fault.Given as goal

abbrev pub invariant-loop-at : goal.invariant-loop-at
invariant-loop-at l = (l.k ≤ l.at + 1) × (l.at ≤ length l.s) × LegalFrom l.n l.s l.at × (faults_from l.file l.k (records_in l.n (drop l.at l.s)) ≡ faults_from l.file 1 (records_in l.n l.s))

abbrev pub decreases-loop-at : goal.decreases-loop-at
decreases-loop-at l = length l.s - l.at
