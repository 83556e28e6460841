-- `ticket::on_day` meets its contract: the trip is looked for by its line and number, and none has a number of ten digits.
use mathlib.Core.Path.{sym, ◌∙◌}
use mathlib.Core.List.{[], ◌∷◌}
use Rattle.std.proofs.Common.{inl, inr}
use Rattle.file.specs.Files.{fields_of}
use Rattle.file.specs.Records.{records_in}
use Rattle.keys.proofs.KeyLaws.{has_found, has_none}
use Rattle.tripruns.proofs.RunsLaws.{found_trip}
use Rattle.roll.proofs.TripLaws.{no_line, no_trip, trip_found}
use Rattle.stopping.proofs.StoppingLaws.{two_numbers}
use Rattle.boarding.specs.Answers.{numbered_sold}
use Rattle.ticket.proofs.TicketLaws.{day_missing, day_found}
use Rattle.ticket.proofs.on_day.Goals as goal

pub returns-then-line-ge1000000000 : goal.returns-then-line-ge1000000000
unfolding numbered_sold
returns-then-line-ge1000000000 c =
    let a = c.args in
    elim c.then-line-ge1000000000.either [
      | inl h ↦ day_missing _ _ _ _ _ _ _ _ _ _ _ _ (no_line a.f6.now c.requires.4.key a.line a.trip h)
      | inr h ↦ day_missing _ _ _ _ _ _ _ _ _ _ _ _ (no_trip a.f6.now c.requires.4.key a.line a.trip h.1)
    ]

pub by_two-requires : goal.by_two-requires
by_two-requires c =
    let k = c.requires.4 in
    (k.size, k.way, two_numbers, c.if-line-ge1000000000.false, c.if-trip-ge1000000000.false)

pub of_trip-requires : goal.of_trip-requires
of_trip-requires c =
    let a = c.args in
    let p = c.requires in
    let e = sym c.by_two.ensures ∙ c.in-Some.is in
    let h = found_trip a.f6.now a.line a.trip _ p.4.key c.if-line-ge1000000000.false c.if-trip-ge1000000000.false e in
    let met = p.1 a.line a.trip (has_found 6 (a.line ∷ a.trip ∷ []) 0 (records_in (fields_of 6) a.f6.now) _ e) in
    (h.0, h.1, c.if-line-ge1000000000.false, c.if-trip-ge1000000000.false, p.0, met, p.2, p.3, p.4, p.5, p.6, p.7)

pub returns-in-Some : goal.returns-in-Some
returns-in-Some c =
    let a = c.args in
    let e = sym c.by_two.ensures ∙ c.in-Some.is in
    let there = has_found 6 (a.line ∷ a.trip ∷ []) 0 (records_in (fields_of 6) a.f6.now) _ e in
    day_found _ _ _ _ _ _ _ _ _ _ _ _ there (trip_found a.f6.now a.line a.trip _ c.requires.4.key.legal e) c.of_trip.ensures

pub returns-in-None : goal.returns-in-None
unfolding numbered_sold
returns-in-None c =
    let a = c.args in
    day_missing _ _ _ _ _ _ _ _ _ _ _ _ (has_none 6 (a.line ∷ a.trip ∷ []) 0 (records_in (fields_of 6) a.f6.now) (sym c.by_two.ensures ∙ c.in-None.is))
