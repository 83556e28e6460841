-- `tripruns::trip_runs` meets its contract: the line's validity first, and then the signs and time codes of the record that is cut.
use Rattle.file.specs.Files.{fields_of, field_counts}
use Rattle.walk.proofs.WalkLaws.{cut_first}
use Rattle.coded.proofs.LeftLaws.{left_here, left_kinded}
use Rattle.trips.specs.Plain.{plain_runs}
use Rattle.tripruns.proofs.trip_runs.Goals as goal

pub returns-then-not-valid_on : goal.returns-then-not-valid_on
unfolding plain_runs
returns-then-not-valid_on c =
    rw (← c.valid_on.ensures, c.if-not-valid_on.true)

pub cut-requires : goal.cut-requires
unfolding fields_of field_counts
cut-requires c =
    left_here 6 _ _ _ c.requires.7 _ c.requires.0 c.requires.1

pub allowed_on-requires : goal.allowed_on-requires
unfolding fields_of field_counts
allowed_on-requires c =
    let p = c.requires in
    (left_kinded 6 _ _ _ p.7 _ p.0 p.1 c.cut.ensures, p.2, p.3, p.4, p.8, p.9)

pub returns : goal.returns
unfolding plain_runs fields_of field_counts
returns c =
    let first = cut_first 12 c.args.f6.now c.args.at _ _ _ c.cut.ensures in
    rw (← c.valid_on.ensures, c.if-not-valid_on.false, first) c.allowed_on.ensures
