-- `counter::runs` meets its contract: the batch is checked first, and where there is no fault, what the records say is the answer.
use mathlib.Core.Bool.{not}
use mathlib.Core.Path.{ap, ◌∙◌}
use Prim.Native.Nat.{◌≤◌}
use native.Mathlib.Omega.{arith}
use lib.ListN.{length}
use Rattle.thirteen.specs.Batch.{file_in}
use Rattle.outcome.specs.Answers.{numbered_runs}
use Rattle.batch.proofs.AcceptedLaws.{standing}
use Rattle.batch.proofs.VerdictLaws.{no_fault}
use Rattle.roll.proofs.StandingLaws.{standing_ready, line_met}
use Rattle.counter.proofs.RunsLaws.{runs_refused, runs_no_day, runs_plain}
use Rattle.counter.proofs.runs.Goals as goal

pub returns-then-not-is_none : goal.returns-then-not-is_none
unfolding numbered_runs
returns-then-not-is_none c =
    runs_refused _ _ _ _ _ _ c.check_with-fault.ensures.0 _ c.is_none.ensures (ap not c.if-not-is_none.true)

pub returns-then-d-gt73048 : goal.returns-then-d-gt73048
unfolding numbered_runs
returns-then-d-gt73048 c =
    let k = c.check_with-fault in
    runs_no_day _ _ _ _ _ (no_fault _ _ k.ensures.0 _ c.is_none.ensures (ap not c.if-not-is_none.false)) c.if-d-gt73048.true

pub answer_runs-requires : goal.answer_runs-requires
unfolding file_in
answer_runs-requires c =
    let k = c.check_with-fault in
    let none = no_fault _ _ k.ensures.0 _ c.is_none.ensures (ap not c.if-not-is_none.false) in
    let h : 33 ≤ length k.new.ways = omega arith in
    let s = standing _ none in
    let r = standing_ready _ _ _ s (k.ensures.1 none) h in
    (line_met _ _ _ s.linking, r.codes, r.lines, r.trips, r.time_codes, c.if-d-gt73048.false)

pub returns : goal.returns
unfolding file_in
returns c =
    let none = no_fault _ _ c.check_with-fault.ensures.0 _ c.is_none.ensures (ap not c.if-not-is_none.false) in
    c.answer_runs.ensures ∙ runs_plain _ _ _ _ _ none c.if-d-gt73048.false
