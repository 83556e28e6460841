-- The stage as the code goes about it finds what document 01 says: where no two trips have one key, each record of Spoje is its line's trip of its
-- number.
use Rattle.std.specs.Prelude.{Some}
use mathlib.Core.Path.{◌≡◌, refl, sym, ap, ◌∙◌}
use mathlib.Core.Bool.{Bool}
use mathlib.Core.List.{List, [], ◌∷◌, ◌++◌}
use Prim.Native.Nat.{ℕ, ◌+◌}
use Rattle.laws.specs.Tests.{both}
use Rattle.laws.specs.Numbered.{Numbered}
use Rattle.file.specs.Files.{fields_of}
use Rattle.file.specs.Format.{Fields}
use Rattle.walk.specs.Walk.{LegalFrom}
use Rattle.keys.specs.Keys.{first_with}
use Rattle.keys.specs.Ranks.{record_at}
use Rattle.field.specs.Names.{lines_file, time_codes_file, trip_stops_file}
use Rattle.link.specs.Signs.{codes_file, sign_of}
use Rattle.thirteen.specs.Batch.{Batch, file_in, records_of}
use Rattle.trail.specs.Lists.{first_or}
use Rattle.trail.specs.Trail.{Once, upward}
use Rattle.trip.specs.Days.{codes_allow, is_valid}
use Rattle.trip.specs.Stage.{trips_file, fault_of_trip, trips_from, trips_fault}
use Rattle.trip.specs.View.{of_line, view_of, runs_on, trip_signs}
use Rattle.trip.proofs.ViewLaws.{view_codes, view_fault, view_trip_found}
use Rattle.calling.specs.Calling.{travelled}
use Rattle.tripfault.specs.Plain.{plain_fault}
use Rattle.trips.specs.Plain.{plain_from, plain_runs}

-- lists put together in either order
append_assoc : {A : Type 0} (a b c : List A) → (a ++ b) ++ c ≡ a ++ (b ++ c)
append_assoc [] b c = refl
append_assoc (x ∷ a) b c = ap (λ (l : List _). x ∷ l) (append_assoc a b c)

module _ (b : Batch) (once : Once trips_file (records_of b trips_file)) where
  abbrev plain : Fields → ℕ
  plain r = plain_fault (records_of b codes_file) (records_of b trip_stops_file) (records_of b time_codes_file) r

  abbrev from : ℕ → List Fields → Numbered
  from k rs = plain_from (records_of b codes_file) (records_of b trip_stops_file) (records_of b time_codes_file) k rs

  -- of one trip
  plain_one : (past : List Fields) (r : Fields) (rest : List Fields) → records_of b trips_file ≡ past ++ (r ∷ rest) → plain r ≡ fault_of_trip b r
  unfolding plain_fault trip_signs travelled sign_of
  plain_one past r rest e = sym (view_fault b once past r rest e)

  -- of those behind some
  plain_rest : (k : ℕ) (past rest : List Fields) → records_of b trips_file ≡ past ++ rest → from k rest ≡ trips_from b k rest
  unfolding plain_from trips_from
  plain_rest k past [] e = refl
  plain_rest k past (r ∷ rest) e =
      rw (plain_one past r rest e, plain_rest (k + 1) (past ++ (r ∷ [])) rest (e ∙ sym (append_assoc past (r ∷ []) rest)))

  -- of the batch
  pub plain_trips : from 1 (records_of b trips_file) ≡ trips_fault b
  unfolding trips_fault
  plain_trips = plain_rest 1 [] (records_of b trips_file) refl

-- a line's validity is that of its record in its view
valid_line : (b : Batch) (line d : ℕ) (t : Bool) → both (is_valid (first_or [] (of_line line) (records_of b lines_file)) d) t ≡ both (is_valid (view_of b line).line d) t
unfolding view_of
valid_line b line d t = refl

-- and a trip that is found by its key runs when its line's view says so
pub plain_runs_lem : (b : Batch) (line trip p : ℕ) → LegalFrom (fields_of trips_file) (file_in b trips_file) 0
    → first_with trips_file (line ∷ trip ∷ []) 0 (records_of b trips_file) ≡ Some p → (holidays : List ℕ) (d : ℕ)
    → plain_runs (records_of b codes_file) (records_of b lines_file) (records_of b time_codes_file) line trip (record_at trips_file (file_in b trips_file) p) holidays d
    ≡ runs_on (view_of b line) trip holidays d
unfolding plain_runs runs_on trip_signs sign_of
plain_runs_lem b line trip p l e holidays d =
    let r = record_at trips_file (file_in b trips_file) p in
    rw (view_trip_found b line trip p l e r refl, view_codes b line trip) (valid_line b line d (codes_allow (trip_signs b r) (upward 10 line trip (records_of b 10)) d holidays))
