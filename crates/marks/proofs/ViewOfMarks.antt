-- The signs of a trip's stop, as the code goes about them, are those of its line's view.
use mathlib.Core.Path.{◌≡◌, refl}
use Rattle.file.specs.Format.{Fields}
use Rattle.keys.specs.Keys.{third}
use Rattle.link.specs.Met.{number}
use Rattle.link.specs.Signs.{sign_of}
use Rattle.thirteen.specs.Batch.{Batch, records_of}
use Rattle.trip.specs.View.{trip_stop_signs, line_stop_signs, view_of, stop_signs}
use Rattle.trip.proofs.ViewLaws.{view_line_stop}
use Rattle.marks.specs.Marks.{line_stop_at, plain_signs}

-- the signs of a stop
pub plain_signs_lem : (b : Batch) (r : Fields)
    → plain_signs (records_of b 3) (records_of b 7) r ≡ stop_signs (view_of b (number 1 r)) (record { texts = r; signs = trip_stop_signs b r })
unfolding plain_signs stop_signs trip_stop_signs line_stop_signs sign_of line_stop_at
plain_signs_lem b r = rw (view_line_stop b (number 1 r) (third 8 r) (line_stop_at (records_of b 3) (records_of b 7) r) refl)
