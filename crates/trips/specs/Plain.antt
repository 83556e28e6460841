-- The stage as the code goes about it: the records of each file are looked through as they are, and no view is made. That it is `trips_fault` where
-- keys are met once is proved; nothing here needs to be believed.
use Rattle.std.specs.Prelude.{ℕ, ◌+◌, List, [], ◌∷◌, eqb, Bool}
use Rattle.laws.specs.Tests.{pick, both}
use Rattle.laws.specs.Numbered.{Numbered, answered, refused_in}
use Rattle.file.specs.Format.{Fields}
use Rattle.field.specs.Names.{time_codes_file}
use Rattle.link.specs.Signs.{sign_in}
use Rattle.trail.specs.Lists.{first_or}
use Rattle.trail.specs.Trail.{upward}
use Rattle.trip.specs.Days.{codes_allow, is_valid}
use Rattle.trip.specs.Stage.{trips_file}
use Rattle.trip.specs.View.{signs_from, of_line}
use Rattle.tripfault.specs.Plain.{plain_fault}

-- the first fault of these trips, where the first of them is record k, and `codes`, `stops` and `times` are the records of Pevnykod, Zasspoje and Caskody
module _ (codes stops times : List Fields) where
  unfoldable pub plain_from : ℕ → List Fields → Numbered
  plain_from k [] = answered []
  plain_from k (r ∷ rs) = pick (eqb (plain_fault codes stops times r) 0) (plain_from (k + 1) rs) (refused_in (plain_fault codes stops times r) trips_file k 0)

-- whether the trip of record r, of this line and number, runs on day d; `lines` are the records of Linky
unfoldable pub plain_runs : List Fields → List Fields → List Fields → ℕ → ℕ → Fields → List ℕ → ℕ → Bool
plain_runs codes lines times line trip r holidays d =
    both (is_valid (first_or [] (of_line line) lines) d)
    (codes_allow (signs_from (λ c. sign_in codes c) 3 10 r) (upward time_codes_file line trip times) d holidays)
