-- `tripfault::trip_fault` meets its contract: the trip's line and number are read, its days tried, and then its stops.
use mathlib.Core.Path.{◌∙◌}
use native.Mathlib.Omega.{arith}
use Rattle.file.specs.Files.{fields_of, field_counts}
use Rattle.rules.specs.Texts.{texts}
use Rattle.trip.specs.Stage.{trips_file}
use Rattle.tripfault.proofs.FaultLaws.{Named, named_line, named_trip, fault_days, fault_stops}
use Rattle.tripfault.proofs.trip_fault.Goals as goal

pub part-requires : goal.part-requires
unfolding fields_of field_counts
part-requires c = c.requires.0.parted 0 (omega arith)

pub value_of-line-requires : goal.value_of-line-requires
value_of-line-requires c =
    let n = named_line c.args.row.bytes.now c.args.row.places.now c.requires.0 _ c.part.ensures in
    (n.digits, n.most)

pub part-requires-2 : goal.part-requires-2
unfolding fields_of field_counts
part-requires-2 c = c.requires.0.parted 1 (omega arith)

pub value_of-trip-requires : goal.value_of-trip-requires
value_of-trip-requires c =
    let n = named_trip c.args.row.bytes.now c.args.row.places.now c.requires.0 _ c.part-2.ensures in
    (n.digits, n.most)

pub days_fit-d-requires : goal.days_fit-d-requires
days_fit-d-requires c =
    let line : Named 1 (texts trips_file c.args.row.bytes.now c.args.row.places.now) c.part.result.now =
    named_line c.args.row.bytes.now c.args.row.places.now c.requires.0 _ c.part.ensures in
    let trip : Named 2 (texts trips_file c.args.row.bytes.now c.args.row.places.now) c.part-2.result.now =
    named_trip c.args.row.bytes.now c.args.row.places.now c.requires.0 _ c.part-2.ensures in
    let p = c.requires in
    (p.0, rw c.value_of-line.ensures line.small, rw c.value_of-trip.ensures trip.small, p.1, p.3, p.4)

pub returns-then-not-d : goal.returns-then-not-d
returns-then-not-d c =
    let line : Named 1 (texts trips_file c.args.row.bytes.now c.args.row.places.now) c.part.result.now =
    named_line c.args.row.bytes.now c.args.row.places.now c.requires.0 _ c.part.ensures in
    let trip : Named 2 (texts trips_file c.args.row.bytes.now c.args.row.places.now) c.part-2.result.now =
    named_trip c.args.row.bytes.now c.args.row.places.now c.requires.0 _ c.part-2.ensures in
    let x = c.days_fit-d.ensures in
    (fault_days _ _ _ _ _ _ (c.value_of-line.ensures ∙ line.worth) (c.value_of-trip.ensures ∙ trip.worth) _ x.0 c.if-not-d.true, x.1, c.requires.5)

pub stops_fit-s-requires : goal.stops_fit-s-requires
stops_fit-s-requires c =
    let line : Named 1 (texts trips_file c.args.row.bytes.now c.args.row.places.now) c.part.result.now =
    named_line c.args.row.bytes.now c.args.row.places.now c.requires.0 _ c.part.ensures in
    let trip : Named 2 (texts trips_file c.args.row.bytes.now c.args.row.places.now) c.part-2.result.now =
    named_trip c.args.row.bytes.now c.args.row.places.now c.requires.0 _ c.part-2.ensures in
    let p = c.requires in
    (p.2, p.5, rw c.value_of-line.ensures line.small, rw c.value_of-trip.ensures trip.small)

pub returns-then-s : goal.returns-then-s
returns-then-s c =
    let line : Named 1 (texts trips_file c.args.row.bytes.now c.args.row.places.now) c.part.result.now =
    named_line c.args.row.bytes.now c.args.row.places.now c.requires.0 _ c.part.ensures in
    let trip : Named 2 (texts trips_file c.args.row.bytes.now c.args.row.places.now) c.part-2.result.now =
    named_trip c.args.row.bytes.now c.args.row.places.now c.requires.0 _ c.part-2.ensures in
    let x = c.days_fit-d.ensures in
    let y = c.stops_fit-s.ensures in
    let e = fault_stops _ _ _ _ _ _ (c.value_of-line.ensures ∙ line.worth) (c.value_of-trip.ensures ∙ trip.worth) _ x.0 c.if-not-d.false _ y.0 in
    (rw c.if-s.true at e, x.1, y.1)

pub returns-else-s : goal.returns-else-s
returns-else-s c =
    let line : Named 1 (texts trips_file c.args.row.bytes.now c.args.row.places.now) c.part.result.now =
    named_line c.args.row.bytes.now c.args.row.places.now c.requires.0 _ c.part.ensures in
    let trip : Named 2 (texts trips_file c.args.row.bytes.now c.args.row.places.now) c.part-2.result.now =
    named_trip c.args.row.bytes.now c.args.row.places.now c.requires.0 _ c.part-2.ensures in
    let x = c.days_fit-d.ensures in
    let y = c.stops_fit-s.ensures in
    let e = fault_stops _ _ _ _ _ _ (c.value_of-line.ensures ∙ line.worth) (c.value_of-trip.ensures ∙ trip.worth) _ x.0 c.if-not-d.false _ y.0 in
    (rw c.if-s.false at e, x.1, y.1)
