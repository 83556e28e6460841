-- `following::next_of_trip` meets its contract: from ten digits on there is no number.
use mathlib.Core.Path.{sym}
use native.Mathlib.Omega.{arith}
use Rattle.file.specs.Files.{fields_of}
use Rattle.file.specs.Records.{records_in}
use Rattle.find.proofs.TripLaws.{next_nothing, next_beyond}
use Rattle.following.proofs.next_of_trip.Goals as goal

pub returns-then-x-ge1000000000 : goal.returns-then-x-ge1000000000
returns-then-x-ge1000000000 c =
    let a = c.args in
    let rs = records_in (fields_of a.file) a.s.now in
    sym (next_nothing a.file a.line a.trip a.x rs (next_beyond a.file a.line a.trip a.x rs c.requires.0.serves.keyed.keys (omega arith)))

pub next_below-requires : goal.next_below-requires
next_below-requires c = (c.requires.0, c.requires.1, c.requires.2, omega arith)
