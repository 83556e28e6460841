-- What a record of a trip's stops says, and the pass over records: its track, its last minute and its last kilometre behind them.
use Rattle.std.specs.Prelude.{ℕ, List, [], ◌∷◌}
use Rattle.laws.specs.Tests.{pick}
use Rattle.file.specs.Format.{Text, Fields}
use Rattle.field.specs.Values.{given, value, is_time, minute_of}
use Rattle.field.specs.Names.{kilometres, arrival, departure}
use Rattle.trip.specs.Stops.{arrives, departs, passes, blank}
use Rattle.track.specs.Track.{track_on, time_on, length_on}
use Rattle.track.specs.declared.Track.{Track}
use Rattle.track.specs.declared.Visit.{Visit}

-- what a record says: a time's minute, or 0; its kilometre, or 0
unfoldable pub minute_or : Text → ℕ
minute_or t = pick (is_time t) (minute_of t) 0

unfoldable pub visit_of : Fields → Visit
visit_of r = record {
  arrives = arrives r;
  arrival = minute_or (arrival r);
  departs = departs r;
  departure = minute_or (departure r);
  passes = passes r;
  blank = blank r;
  measured = given (kilometres r);
  kilometre = value (kilometres r);
}

-- behind these records
unfoldable pub track_behind : Track → List Fields → Track
track_behind c [] = c
track_behind c (r ∷ rs) = track_behind (track_on c (visit_of r)) rs

unfoldable pub time_behind : ℕ → List Fields → ℕ
time_behind last [] = last
time_behind last (r ∷ rs) = time_behind (time_on last (visit_of r)) rs

unfoldable pub length_behind : ℕ → List Fields → ℕ
length_behind last [] = last
length_behind last (r ∷ rs) = length_behind (length_on last (visit_of r)) rs
