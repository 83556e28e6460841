-- `scanner::read` meets its contract. The loop's invariant: what the reading comes to from `at` on, where a record may start, is what
-- the whole reading comes to.
use mathlib.Core.Path.{◌≡◌}
use Prim.Native.Nat.{◌-◌, ◌≤◌}
use lib.ListN.{length, drop}
use Rattle.file.specs.Reading.{opening, state, run, outcome, reading}
use Rattle.scanner.proofs.read.Given as goal

abbrev pub invariant-loop-at : goal.invariant-loop-at
invariant-loop-at l = (l.at ≤ length l.s) × (l.records ≤ l.at) × (outcome (run l.n (state opening 0 l.records l.at 0) (drop l.at l.s)) ≡ reading l.n l.s)

abbrev pub decreases-loop-at : goal.decreases-loop-at
decreases-loop-at l = length l.s - l.at
