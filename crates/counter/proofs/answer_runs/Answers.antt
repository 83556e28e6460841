-- `counter::answer_runs` meets its contract: no key has so great a number, and the record that is found by the key is the trip's.
use mathlib.Core.Path.{refl, sym, ap, ◌∙◌}
use mathlib.Core.Bool.{Bool}
use mathlib.Core.List.{[], ◌∷◌}
use Rattle.std.proofs.Common.{inl, inr}
use Rattle.laws.specs.Tests.{bit}
use Rattle.laws.specs.Numbered.{answered}
use Rattle.file.specs.Files.{fields_of}
use Rattle.file.specs.Records.{records_in}
use Rattle.keys.specs.Keys.{key_fields, key_table}
use Rattle.keys.proofs.KeyLaws.{has_found, has_none}
use Rattle.tripruns.proofs.RunsLaws.{found_trip}
use Rattle.outcome.specs.Answers.{numbered_runs}
use Rattle.roll.proofs.TripLaws.{no_line, no_trip}
use Rattle.counter.proofs.RunsLaws.{answer_none, answer_found}
use Rattle.counter.proofs.answer_runs.Goals as goal

pub returns-then-line-ge1000000000 : goal.returns-then-line-ge1000000000
unfolding numbered_runs
returns-then-line-ge1000000000 c =
    let a = c.args in
    elim c.then-line-ge1000000000.either [
      | inl h ↦ sym (answer_none _ _ _ _ a.line a.trip a.d a.holidays.now (no_line a.f6.now c.requires.3.key a.line a.trip h))
      | inr h ↦ sym (answer_none _ _ _ _ a.line a.trip a.d a.holidays.now (no_trip a.f6.now c.requires.3.key a.line a.trip h.1))
    ]

pub by_two-requires : goal.by_two-requires
unfolding key_fields key_table
by_two-requires c =
    let k = c.requires.3 in
    (k.size, k.way, refl, c.if-line-ge1000000000.false, c.if-trip-ge1000000000.false)

pub trip_runs-requires : goal.trip_runs-requires
trip_runs-requires c =
    let a = c.args in
    let p = c.requires in
    let e = sym c.by_two.ensures ∙ c.in-Some.is in
    let h = found_trip a.f6.now a.line a.trip _ p.3.key c.if-line-ge1000000000.false c.if-trip-ge1000000000.false e in
    let met = p.0 (has_found 6 (a.line ∷ a.trip ∷ []) 0 (records_in (fields_of 6) a.f6.now) _ e) in
    (h.0, h.1, c.if-line-ge1000000000.false, c.if-trip-ge1000000000.false, p.1, p.2, met, p.3, p.4, p.5)

pub returns-then-trip_runs : goal.returns-then-trip_runs
unfolding numbered_runs
returns-then-trip_runs c =
    let a = c.args in
    let e = sym c.by_two.ensures ∙ c.in-Some.is in
    sym
    (answer_found _ _ _ a.f6.now a.line a.trip _ a.d a.holidays.now c.requires.3.key.legal e
    ∙ ap (λ (t : Bool). answered (bit t ∷ [])) (sym c.trip_runs.ensures ∙ c.if-trip_runs.true))

pub returns-else-trip_runs : goal.returns-else-trip_runs
unfolding numbered_runs
returns-else-trip_runs c =
    let a = c.args in
    let e = sym c.by_two.ensures ∙ c.in-Some.is in
    sym
    (answer_found _ _ _ a.f6.now a.line a.trip _ a.d a.holidays.now c.requires.3.key.legal e
    ∙ ap (λ (t : Bool). answered (bit t ∷ [])) (sym c.trip_runs.ensures ∙ c.if-trip_runs.false))

pub returns-in-None : goal.returns-in-None
unfolding numbered_runs
returns-in-None c =
    let a = c.args in
    let rs = records_in (fields_of 6) a.f6.now in
    let e = has_none 6 (a.line ∷ a.trip ∷ []) 0 rs (sym c.by_two.ensures ∙ c.in-None.is) in
    sym (answer_none _ _ _ rs a.line a.trip a.d a.holidays.now e)
