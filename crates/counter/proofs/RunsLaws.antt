-- Whether a trip runs: on a batch with no fault each trip's line is there and the records say what the line's view says.
use Rattle.std.specs.Prelude.{None, Option, Some}
use mathlib.Core.Path.{◌≡◌, refl}
use mathlib.Core.Bool.{Bool, true, false, not}
use mathlib.Core.List.{List, [], ◌∷◌}
use Prim.Native.Nat.{ℕ, ◌≤◌, ◌<◌}
use native.Mathlib.Omega.{arith}
use lib.Dec.{eqb}
use borrow.Author.Tests.{lt-leb, le-leb}
use Rattle.laws.specs.Tests.{pick, bit}
use Rattle.laws.specs.Numbered.{answered, refused}
use Rattle.file.specs.Files.{fields_of}
use Rattle.file.specs.Format.{Fields}
use Rattle.file.specs.Records.{records_in}
use Rattle.field.specs.Names.{lines_file, time_codes_file}
use Rattle.walk.specs.Walk.{LegalFrom}
use Rattle.keys.specs.Keys.{has, first_with}
use Rattle.keys.specs.Ranks.{record_at}
use Rattle.keys.proofs.KeyLaws.{has_found, has_none}
use Rattle.link.specs.Signs.{codes_file}
use Rattle.thirteen.specs.Batch.{Batch, file_in, records_of}
use Rattle.trip.specs.Stage.{trips_file}
use Rattle.trip.specs.View.{view_of, runs_on}
use Rattle.trips.specs.Plain.{plain_runs}
use Rattle.trips.proofs.PlainLaws.{plain_runs_lem}
use Rattle.roll.proofs.TripLaws.{trip_found}
use Rattle.fault.specs.Answers.{numbered_fault}
use Rattle.batch.specs.Order.{fault_of}
use Rattle.fault.specs.declared.Fault.{Fault}
use Rattle.batch.proofs.AcceptedLaws.{standing}
use Rattle.batch.proofs.VerdictLaws.{a_fault}
use Rattle.counter.specs.Answers.{has_trip, runs_answer}
use Rattle.counter.specs.Plain.{plain_answer}

-- where nothing is found by a trip's key, there is no such trip
pub answer_none : (codes lines times : List Fields) (rs : List Fields) (line trip d : ℕ) (holidays : List ℕ) → has trips_file (line ∷ trip ∷ []) rs ≡ false
    → plain_answer codes lines rs times line trip d holidays ≡ refused 13
unfolding plain_answer
answer_none codes lines times rs line trip d holidays e = rw e

-- and where one is, it runs or doesn't
pub answer_found : (codes lines times : List Fields) (s : List ℕ) (line trip p d : ℕ) (holidays : List ℕ) → LegalFrom (fields_of trips_file) s 0
    → first_with trips_file (line ∷ trip ∷ []) 0 (records_in (fields_of trips_file) s) ≡ Some p
    → plain_answer codes lines (records_in (fields_of trips_file) s) times line trip d holidays
    ≡ answered (bit (plain_runs codes lines times line trip (record_at trips_file s p) holidays d) ∷ [])
unfolding plain_answer
answer_found codes lines times s line trip p d holidays l e =
    rw (has_found trips_file (line ∷ trip ∷ []) 0 (records_in (fields_of trips_file) s) p e, trip_found s line trip p l e)

-- on a batch the records say what the line's view says
answer_view : (b : Batch) (line trip d : ℕ) (holidays : List ℕ) → LegalFrom (fields_of trips_file) (file_in b trips_file) 0
    → plain_answer (records_of b codes_file) (records_of b lines_file) (records_of b trips_file) (records_of b time_codes_file) line trip d holidays
    ≡ pick (has_trip b line trip) (answered (bit (runs_on (view_of b line) trip holidays d) ∷ [])) (refused 13)
answer_view b line trip d holidays l = go (first_with trips_file (line ∷ trip ∷ []) 0 (records_of b trips_file)) refl
  where
    go : (f : Option ℕ) → first_with trips_file (line ∷ trip ∷ []) 0 (records_of b trips_file) ≡ f
        → plain_answer (records_of b codes_file) (records_of b lines_file) (records_of b trips_file) (records_of b time_codes_file) line trip d holidays
        ≡ pick (has_trip b line trip) (answered (bit (runs_on (view_of b line) trip holidays d) ∷ [])) (refused 13)
    go (Some p) e =
        rw (
          answer_found (records_of b codes_file) (records_of b lines_file) (records_of b time_codes_file) (file_in b trips_file) line trip p d holidays l e,
          plain_runs_lem b line trip p l e holidays d,
          has_found trips_file (line ∷ trip ∷ []) 0 (records_of b trips_file) p e,
        )
    go None e =
        let z = has_none trips_file (line ∷ trip ∷ []) 0 (records_of b trips_file) e in
        rw (answer_none (records_of b codes_file) (records_of b lines_file) (records_of b time_codes_file) (records_of b trips_file) line trip d holidays z, z)

-- THE ANSWER. On a batch with a fault it is the fault's number and place.
module _ (b : Batch) (line trip d : ℕ) (holidays : List ℕ) where
  pub runs_refused : (f : Fault) → numbered_fault f ≡ fault_of b → (t : Bool) → t ≡ eqb (numbered_fault f).number 0 → not t ≡ true
      → numbered_fault f ≡ runs_answer b line trip d holidays
  unfolding runs_answer
  runs_refused f e t q h = rw (a_fault b f e t q h) e

  -- on one with none there is no day past 73048
  pub runs_no_day : fault_of b ≡ answered [] → 73048 < d → refused 12 ≡ runs_answer b line trip d holidays
  unfolding runs_answer
  runs_no_day e h = rw (e, lt-leb d 73048 h)

  -- and on a day of the calendar the records say it
  pub runs_plain : fault_of b ≡ answered [] → d ≤ 73048
      → plain_answer (records_of b codes_file) (records_of b lines_file) (records_of b trips_file) (records_of b time_codes_file) line trip d holidays
      ≡ runs_answer b line trip d holidays
  unfolding runs_answer
  runs_plain e h = rw (e, le-leb d 73048 h) (answer_view b line trip d holidays ((standing b e).sound trips_file (omega arith) (omega arith)).legal)
