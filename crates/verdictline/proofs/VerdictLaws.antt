-- Which line a verdict has.
use mathlib.Core.Path.{◌≡◌, refl, sym, ap, ◌∙◌}
use borrow.Author.Tests.{ne_eqb}
use Rattle.laws.specs.Numbered.{Numbered}
use Rattle.fault.specs.Answers.{numbered_fault}
use Rattle.fault.proofs.OneResult.{fault_no_values}
use Rattle.fault.specs.declared.Fault.{Fault}
use Rattle.outcome.specs.Answers.{numbered_verdict}
use Rattle.counts.specs.declared.Counts.{Counts}
use Rattle.outcome.specs.declared.Verdict.{Verdict}
use Rattle.phrase.specs.declared.Place.{Place}
use Rattle.phrase.specs.Phrases.{accepted_line, refused_line}
use Rattle.verdictline.specs.VerdictLine.{verdict_line}
use Rattle.verdictline.specs.Places.{numbered_place, Judged}

-- an accepted batch
pub accepted_line_lem : (c : Counts) → verdict_line (numbered_verdict (Verdict.Accepted c)) ≡ accepted_line c.stops c.lines c.trips c.trip_stops
unfolding numbered_verdict verdict_line
accepted_line_lem c = refl

-- a fault
pub refused_line_lem : (f : Fault) (p : Place) → numbered_place p ≡ numbered_fault f → Judged (numbered_verdict (Verdict.Refused f))
    → verdict_line (numbered_verdict (Verdict.Refused f)) ≡ refused_line p.number p.file p.row p.column p.offset
unfolding numbered_verdict verdict_line
refused_line_lem f p e j =
    let z : p.number ≡ 0 → ⊥ = λ x. j (ap (λ (a : Numbered). a.number) (sym e) ∙ x) (fault_no_values f) in
    rw (← e, ne_eqb p.number 0 z)
