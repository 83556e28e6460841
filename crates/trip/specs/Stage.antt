-- Document 01's batch order, "then trips in Spoje order, 10 before 11": trip by trip.
use Rattle.std.specs.Prelude.{ℕ, ◌+◌, List, [], ◌∷◌, eqb}
use Rattle.laws.specs.Tests.{pick}
use Rattle.laws.specs.Numbered.{Numbered, answered, refused_in}
use Rattle.file.specs.Format.{Fields}
use Rattle.link.specs.Met.{number}
use Rattle.thirteen.specs.Batch.{Batch, records_of}
use Rattle.trip.specs.View.{view_of, trip_fault}

-- Spoje
abbrev pub trips_file : ℕ
trips_file = 6

-- what is wrong with the trip of this record; the trip is looked up in its line's view by its number
unfoldable pub fault_of_trip : Batch → Fields → ℕ
fault_of_trip b r = trip_fault (view_of b (number 1 r)) (number 2 r)

-- the first fault of these trips, where the first of them is record k of Spoje
unfoldable pub trips_from : Batch → ℕ → List Fields → Numbered
trips_from b k [] = answered []
trips_from b k (r ∷ rs) = pick (eqb (fault_of_trip b r) 0) (trips_from b (k + 1) rs) (refused_in (fault_of_trip b r) trips_file k 0)

-- of the batch
unfoldable pub trips_fault : Batch → Numbered
trips_fault b = trips_from b 1 (records_of b trips_file)
