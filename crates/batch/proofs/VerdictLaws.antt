-- What was found says what the verdict is: a fault, or, where there is none, the counts.
use mathlib.Core.Path.{◌≡◌, sym, ap, ◌∙◌}
use mathlib.Core.Bool.{Bool, true, false, not}
use mathlib.Core.List.{[]}
use native.Mathlib.Omega.{arith}
use borrow.Author.Tests.{not-true}
use lib.Dec.{eqb}
use Rattle.laws.specs.Numbered.{Numbered, answered}
use Rattle.keys.specs.KeyFiles.{KeyFile}
use Rattle.links.proofs.KeyedLaws.{sound_keys}
use Rattle.thirteen.specs.Batch.{Batch, file_in}
use Rattle.fault.specs.Answers.{numbered_fault}
use Rattle.fault.specs.declared.Fault.{Fault}
use Rattle.fault.proofs.FaultLaws.{is_zero, none_zero}
use Rattle.batch.specs.Order.{fault_of}
use Rattle.counts.specs.Counted.{Counted}
use Rattle.counts.specs.declared.Counts.{Counts}
use Rattle.outcome.specs.Answers.{numbered_verdict}
use Rattle.outcome.specs.declared.Verdict.{Verdict}
use Rattle.batch.specs.Verdicts.{counts_of, verdict_of}
use Rattle.batch.proofs.AcceptedLaws.{standing}

module _ (b : Batch) (f : Fault) (e : numbered_fault f ≡ fault_of b) (t : Bool) (d : t ≡ eqb (numbered_fault f).number 0) where
  -- a fault was found
  pub a_fault : not t ≡ true → eqb (fault_of b).number 0 ≡ false
  a_fault h = ap (λ (a : Numbered). eqb a.number 0) (sym e) ∙ sym d ∙ not-true t h

  pub refused : not t ≡ true → numbered_verdict (Verdict.Refused f) ≡ verdict_of b
  unfolding numbered_verdict verdict_of
  refused h = rw (a_fault h) e

  -- none was
  pub no_fault : not t ≡ false → fault_of b ≡ answered []
  no_fault h = sym e ∙ none_zero f (is_zero f t d h)

  -- so the keyed files can be counted
  pub countable : not t ≡ false → KeyFile 2 (file_in b 2) × KeyFile 5 (file_in b 5) × KeyFile 6 (file_in b 6) × KeyFile 8 (file_in b 8)
  countable h =
      let k = sound_keys b (standing b (no_fault h)).sound in
      (k 2 (omega arith, omega arith), k 5 (omega arith, omega arith), k 6 (omega arith, omega arith), k 8 (omega arith, omega arith))

  -- and the counts are the verdict's
  pub accepted : not t ≡ false → (c : Counts) → Counted (file_in b 2) (file_in b 5) (file_in b 6) (file_in b 8) c → numbered_verdict (Verdict.Accepted c) ≡ verdict_of b
  unfolding numbered_verdict verdict_of counts_of
  accepted h c k = rw (no_fault h, k.stops, k.lines, k.trips, k.stops_of_trips)
