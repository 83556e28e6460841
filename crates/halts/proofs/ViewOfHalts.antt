-- The records of a trip's stops, as the code goes about them, are those of its line's view.
use mathlib.Core.Path.{◌≡◌, sym}
use Prim.Native.Nat.{ℕ}
use Rattle.thirteen.specs.Batch.{Batch, records_of}
use Rattle.trip.specs.View.{view_of, stop_texts}
use Rattle.trip.proofs.ViewLaws.{view_stops}
use Rattle.calling.specs.Calling.{travelled}

-- the trip's records in travel order
pub plain_stops : (b : Batch) (line trip : ℕ) → travelled line trip (records_of b 8) ≡ stop_texts (view_of b line) trip
unfolding travelled
plain_stops b line trip = sym (view_stops b line trip)
