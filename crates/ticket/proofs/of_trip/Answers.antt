-- `ticket::of_trip` meets its contract: the first stop is looked for by its tariff number.
use Rattle.file.specs.Files.{fields_of}
use Rattle.lines.proofs.LineLaws.{place_start}
use Rattle.boarding.specs.Answers.{numbered_sold}
use Rattle.ticket.proofs.TicketLaws.{stop_large, stop_missing, stop_met, stop_here, stop_is, trip_missing_stop, trip_placed}
use Rattle.ticket.proofs.of_trip.Goals as goal

pub returns-then-from-ge1000000000 : goal.returns-then-from-ge1000000000
unfolding numbered_sold
returns-then-from-ge1000000000 c =
    let a = c.args in
    trip_missing_stop _ _ _ _ _ _ _ _ _ _ _ _ _ (stop_large a.f8.now c.requires.10.key a.line a.trip a.from c.if-from-ge1000000000.true)

pub stop_of-requires : goal.stop_of-requires
stop_of-requires c =
    let p = c.requires in
    (c.if-from-ge1000000000.false, p.10, place_start (fields_of 8) c.args.f8.now p.10.key.legal, p.2, p.3)

pub to_stop-requires : goal.to_stop-requires
to_stop-requires c =
    let a = c.args in
    let p = c.requires in
    let h = stop_here a.f8.now p.10.key a.line a.trip a.from c.stop_of.ensures _ c.in-Some.is p.2 p.3 c.if-from-ge1000000000.false in
    (h.0, h.1, p.0, p.1, p.2, p.3, p.4, p.5, p.6, p.7, p.8, p.9, p.10, p.11)

pub returns-in-Some : goal.returns-in-Some
returns-in-Some c =
    let a = c.args in
    let g = c.in-Some.is in
    let met = stop_met a.f8.now c.requires.10.key a.line a.trip a.from c.stop_of.ensures _ g in
    let there = stop_is a.f8.now c.requires.10.key a.line a.trip a.from c.stop_of.ensures _ g in
    trip_placed _ _ _ _ _ _ _ _ _ _ _ _ _ met there c.to_stop.ensures

pub returns-in-None : goal.returns-in-None
unfolding numbered_sold
returns-in-None c =
    let a = c.args in
    trip_missing_stop _ _ _ _ _ _ _ _ _ _ _ _ _ (stop_missing a.f8.now c.requires.10.key a.line a.trip a.from c.stop_of.ensures c.in-None.is)
