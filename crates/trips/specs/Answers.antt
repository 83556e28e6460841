-- Document 01's number and place for each case of what the stage of 10 and 11 finds.
use Rattle.std.specs.Prelude.{[]}
use Rattle.laws.specs.Numbered.{Numbered, answered, refused_in}
use Rattle.trip.specs.Stage.{trips_file}
use Rattle.trips.specs.declared.Timed.{Timed}

unfoldable pub numbered_timed : Timed → Numbered
numbered_timed Timed.Sound = answered []
numbered_timed (Timed.Days k) = refused_in 10 trips_file k 0
numbered_timed (Timed.Stops k) = refused_in 11 trips_file k 0
