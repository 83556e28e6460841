-- The thirteen files as they are lent: the batch that they are.
use Rattle.thirteen.specs.Batch.{Batch, thirteen}
use Rattle.thirteen.specs.declared.Files.{Files}

abbrev pub batch_of : Files → Batch
batch_of f =
    thirteen f.version.now f.stops.now f.codes.now f.carriers.now f.lines.now f.trips.now f.line_stops.now f.trip_stops.now f.notes.now f.time_codes.now f.other_carriers.now f.other_lines.now f.seats.now
