-- What is wrong with a trip, as the code goes about it: the records of each file are looked through as they are, and no view is made. That it is
-- document 01's is proved in `trips`; nothing here needs to be believed.
use Rattle.std.specs.Prelude.{ℕ, List}
use Rattle.laws.specs.Tests.{pick}
use Rattle.file.specs.Format.{Fields}
use Rattle.field.specs.Names.{time_codes_file}
use Rattle.link.specs.Met.{number}
use Rattle.link.specs.Signs.{sign_in}
use Rattle.trail.specs.Trail.{upward}
use Rattle.trip.specs.Days.{days_fit}
use Rattle.trip.specs.Stops.{stops_fit}
use Rattle.trip.specs.View.{signs_from}
use Rattle.calling.specs.Calling.{travelled}

-- what is wrong with the trip of record r, where `codes`, `stops` and `times` are the records of Pevnykod, Zasspoje and Caskody
module _ (codes stops times : List Fields) where
  unfoldable pub plain_fault : Fields → ℕ
  plain_fault r =
      pick (days_fit (signs_from (λ c. sign_in codes c) 3 10 r) (upward time_codes_file (number 1 r) (number 2 r) times))
      (pick (stops_fit (travelled (number 1 r) (number 2 r) stops)) 0 11)
      10
