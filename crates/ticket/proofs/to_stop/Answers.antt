-- `ticket::to_stop` meets its contract: the second stop is looked for by its tariff number, the trip runs that day or doesn't, and then the two are asked.
use mathlib.Core.Bool.{not}
use mathlib.Core.Path.{ap}
use Rattle.boarding.specs.Answers.{numbered_sold}
use Rattle.ticket.proofs.TicketLaws.{stop_large, stop_missing, stop_met, stop_here, stop_is, to_missing, to_another_day, to_placed}
use Rattle.ticket.proofs.to_stop.Goals as goal

pub returns-then-to-ge1000000000 : goal.returns-then-to-ge1000000000
unfolding numbered_sold
returns-then-to-ge1000000000 c =
    let a = c.args in
    to_missing _ _ _ _ _ _ _ _ _ _ _ _ _ (stop_large a.f8.now c.requires.12.key a.line a.trip a.to c.if-to-ge1000000000.true)

pub stop_of-requires : goal.stop_of-requires
stop_of-requires c =
    let p = c.requires in
    (c.if-to-ge1000000000.false, p.12, p.0, p.4, p.5)

pub returns-then-not-trip_runs : goal.returns-then-not-trip_runs
unfolding numbered_sold
returns-then-not-trip_runs c =
    let a = c.args in
    let met = stop_met a.f8.now c.requires.12.key a.line a.trip a.to c.stop_of.ensures _ c.in-Some.is in
    to_another_day _ _ _ _ _ _ _ _ _ _ _ _ _ met c.trip_runs.ensures (ap not c.if-not-trip_runs.true)

pub between-requires : goal.between-requires
between-requires c =
    let a = c.args in
    let p = c.requires in
    let h = stop_here a.f8.now p.12.key a.line a.trip a.to c.stop_of.ensures _ c.in-Some.is p.4 p.5 c.if-to-ge1000000000.false in
    (p.0, p.1, h.0, h.1, p.8, p.11, p.12)

pub returns-else-not-trip_runs : goal.returns-else-not-trip_runs
returns-else-not-trip_runs c =
    let a = c.args in
    let g = c.in-Some.is in
    let met = stop_met a.f8.now c.requires.12.key a.line a.trip a.to c.stop_of.ensures _ g in
    let there = stop_is a.f8.now c.requires.12.key a.line a.trip a.to c.stop_of.ensures _ g in
    to_placed _ _ _ _ _ _ _ _ _ _ _ _ _ met c.trip_runs.ensures (ap not c.if-not-trip_runs.false) there c.between.ensures

pub returns-in-None : goal.returns-in-None
unfolding numbered_sold
returns-in-None c =
    let a = c.args in
    to_missing _ _ _ _ _ _ _ _ _ _ _ _ _ (stop_missing a.f8.now c.requires.12.key a.line a.trip a.to c.stop_of.ensures c.in-None.is)
