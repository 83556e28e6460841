-- `scanner::read` meets its contract. The loop's invariant: what the reading comes to from `at` on, where a record may start, is what
-- the whole reading comes to.
use mathlib.Core.Path.{◌≡◌, refl, sym, ap, ◌∙◌}
use Prim.Native.Nat.{ℕ, ◌+◌, ◌≤◌, ◌<◌}
use native.Mathlib.Omega.{arith}
use lib.ListN.{length, drop, drop_of_length-le}
use Rattle.file.specs.Reader.{RecordAhead}
use Rattle.file.specs.Reading.{opening, state, run, outcome_in, outcome, State}
use Rattle.scanner.proofs.read.Goals as goal

-- a whole record, and what the reading makes of it
record Whole (n : ℕ) (s : mathlib.Core.List.List ℕ) (at next : ℕ) : Type 0 where
  on : at < next
  near : next ≤ length s
  runs : (k : ℕ) → run n (state opening 0 k at 0) (drop at s) ≡ run n (state opening 0 (k + 1) next 0) (drop next s)

pub returns-in-Err : goal.returns-in-Err
unfolding RecordAhead
returns-in-Err c =
    let l = c.loop-at in
    let r = rw c.in-Err.is at c.record_ahead.ensures in
    c.halted.ensures ∙ sym (r.1 l.records) ∙ l.invariant.2

pub loop-at-smaller : goal.loop-at-smaller
unfolding RecordAhead
loop-at-smaller c =
    let whole : Whole c.args.n c.args.s.now c.loop-at.at c.in-Ok.next =
    let r = rw c.in-Ok.is at c.record_ahead.ensures in
    record { on = r.0; near = r.1; runs = r.2 } in
    let w = whole in omega (arith, w.on, w.near)

pub loop-at-preserved : goal.loop-at-preserved
unfolding RecordAhead
loop-at-preserved c =
    let whole : Whole c.args.n c.args.s.now c.loop-at.at c.in-Ok.next =
    let r = rw c.in-Ok.is at c.record_ahead.ensures in
    record { on = r.0; near = r.1; runs = r.2 } in
    let w = whole in
    let l = c.loop-at in
    (w.near, omega (arith, w.on), ap (λ (st : State). outcome st) (sym (w.runs l.records)) ∙ l.invariant.2)

pub returns : goal.returns
unfolding run outcome_in
returns c =
    let l = c.loop-at in
    let d = drop_of_length-le c.args.s.now c.loop-at-test.false in
    rw d at l.invariant.2

pub loop-at-init : goal.loop-at-init
loop-at-init c = (omega arith, omega arith, refl)

pub record_ahead-requires : goal.record_ahead-requires
record_ahead-requires c = (omega arith, c.requires)

pub overflow_add-records : goal.overflow_add-records
unfolding RecordAhead
overflow_add-records c =
    let whole : Whole c.args.n c.args.s.now c.loop-at.at c.in-Ok.next =
    let r = rw c.in-Ok.is at c.record_ahead.ensures in
    record { on = r.0; near = r.1; runs = r.2 } in
    let w = whole in omega (arith, w.on, w.near)
