-- `stopping::answer_stop` meets its contract: the trip is looked for by its line and number, and none has a number of ten digits.
use mathlib.Core.List.{List}
use native.Mathlib.Omega.{arith}
use Rattle.file.specs.Files.{fields_of}
use Rattle.file.specs.Format.{Fields}
use Rattle.file.specs.Records.{records_in}
use Rattle.outcome.specs.Answers.{numbered_stop}
use Rattle.stopping.proofs.StoppingLaws.{two_numbers, line_large, trip_large, trip_missing, trip_found}
use Rattle.stopping.proofs.answer_stop.Goals as goal
use Rattle.stopping.proofs.answer_stop.Goals.{then-line-ge1000000000-via-then-line-ge1000000000, then-line-ge1000000000-via-else-line-ge1000000000+then-trip-ge1000000000}

pub returns-then-line-ge1000000000 : goal.returns-then-line-ge1000000000
unfolding numbered_stop
returns-then-line-ge1000000000 c =
    let codes : List Fields =
    records_in (fields_of 3) c.args.f3.now in
    let trips : List Fields =
    records_in (fields_of 6) c.args.f6.now in
    let line_stops : List Fields =
    records_in (fields_of 7) c.args.f7.now in
    let stops : List Fields =
    records_in (fields_of 8) c.args.f8.now in
    let a = c.args in
    elim c.then-line-ge1000000000.branch [
      | then-line-ge1000000000-via-then-line-ge1000000000 w ↦
          line_large codes trips line_stops stops a.line a.trip a.n c.requires.1.key.keys w.if-line-ge1000000000.true
      | then-line-ge1000000000-via-else-line-ge1000000000+then-trip-ge1000000000 w ↦
          trip_large codes trips line_stops stops a.line a.trip a.n c.requires.1.key.keys w.if-trip-ge1000000000.true
    ]

pub by_two-requires : goal.by_two-requires
by_two-requires c =
    let k = c.requires.1 in
    (k.size, k.way, two_numbers, omega arith, omega arith)

pub returns-in-Some : goal.returns-in-Some
returns-in-Some c =
    let codes : List Fields =
    records_in (fields_of 3) c.args.f3.now in
    let trips : List Fields =
    records_in (fields_of 6) c.args.f6.now in
    let line_stops : List Fields =
    records_in (fields_of 7) c.args.f7.now in
    let stops : List Fields =
    records_in (fields_of 8) c.args.f8.now in
    let a = c.args in
    trip_found codes trips line_stops stops a.line a.trip a.n c.by_two.ensures _ c.in-Some.is c.answer_halt.ensures

pub returns-in-None : goal.returns-in-None
unfolding numbered_stop
returns-in-None c =
    let codes : List Fields =
    records_in (fields_of 3) c.args.f3.now in
    let trips : List Fields =
    records_in (fields_of 6) c.args.f6.now in
    let line_stops : List Fields =
    records_in (fields_of 7) c.args.f7.now in
    let stops : List Fields =
    records_in (fields_of 8) c.args.f8.now in
    let a = c.args in
    trip_missing codes trips line_stops stops a.line a.trip a.n c.by_two.ensures c.in-None.is
