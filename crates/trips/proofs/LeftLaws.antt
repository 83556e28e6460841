-- The first fault of those trips that are left.
use mathlib.Core.Path.{◌≡◌, refl}
use mathlib.Core.Bool.{true, false}
use mathlib.Core.List.{List, [], ◌∷◌}
use Prim.Native.Nat.{ℕ, ◌+◌, ◌*◌, ◌≤◌}
use native.Mathlib.Omega.{arith}
use borrow.Author.Tests.{eq-eqb, ne_eqb}
use lib.ListN.{length, length-append}
use Rattle.laws.specs.Tests.{either}
use Rattle.laws.specs.Numbered.{answered, refused_in}
use Rattle.file.specs.Files.{fields_of, field_counts}
use Rattle.file.specs.Format.{Fields, ending, written_field, written_record}
use Rattle.file.specs.Records.{records_in}
use Rattle.field.specs.Names.{time_codes_file}
use Rattle.keys.specs.KeyFiles.{PlaceIn, records_from}
use Rattle.link.specs.Met.{number}
use Rattle.link.specs.Signs.{sign_in}
use Rattle.rules.specs.Texts.{texts}
use Rattle.walk.specs.Walk.{Cuts, LegalFrom}
use Rattle.walk.proofs.WalkLaws.{cut_size}
use Rattle.lines.proofs.LineLaws.{none_at, place_start, cut_next}
use Rattle.trail.specs.Trail.{upward}
use Rattle.trip.specs.Days.{days_fit}
use Rattle.trip.specs.Stage.{trips_file}
use Rattle.trip.specs.Stops.{stops_fit}
use Rattle.trip.specs.View.{signs_from}
use Rattle.calling.specs.Calling.{travelled}
use Rattle.tripfault.specs.Plain.{plain_fault}
use Rattle.trips.specs.Plain.{plain_from}

-- a field is a quote, a text, a quote, and more
two_bytes : (r : Fields) → 1 ≤ length r → 2 ≤ length (written_record r)
unfolding written_record written_field
two_bytes [] h = absurd (omega arith)
two_bytes (t ∷ []) h = omega (arith, length-append t (34 ∷ ending true))
two_bytes (t ∷ u ∷ ts) h =
    omega (arith, length-append t (34 ∷ ending false), length-append (written_field false t) (written_record (u ∷ ts)))

-- Where the trips were gone through up to one: the first fault of the rest, the first of which is record k, is that of all.
pub record Left (codes stops times : List Fields) (s : List ℕ) (at k : ℕ) : Type 0 where
  pub place : PlaceIn trips_file s at
  pub count : k * 2 ≤ at + 2
  pub fault : plain_from codes stops times k (records_from trips_file s at) ≡ plain_from codes stops times 1 (records_in (fields_of trips_file) s)

module _ (codes stops times : List Fields) (s : List ℕ) where
  -- at the start
  pub left_start : LegalFrom (fields_of trips_file) s 0 → Left codes stops times s 0 1
  left_start l = record { place = place_start (fields_of trips_file) s l; count = omega arith; fault = refl }

  -- at the end
  pub left_end : (at k : ℕ) → Left codes stops times s at k → length s ≤ at
      → answered [] ≡ plain_from codes stops times 1 (records_in (fields_of trips_file) s)
  unfolding plain_from
  left_end at k l h = rw (none_at (fields_of trips_file) s at l.place h) at l.fault

  -- the trip at `at` was cut, and n is what is wrong with it
  module _ (at k : ℕ) (l : Left codes stops times s at k) (old places : List ℕ) (next : ℕ) (c : Cuts (fields_of trips_file) s at old places next) (n : ℕ)
      (e : n ≡ plain_fault codes stops times (texts trips_file s places)) where
    -- something is
    pub left_stop : (n ≡ 0 → ⊥) → refused_in n trips_file k 0 ≡ plain_from codes stops times 1 (records_in (fields_of trips_file) s)
    unfolding plain_from
    left_stop h = rw (c.rest, ← e, ne_eqb n 0 h) at l.fault

    -- a record takes two bytes or more, so records are fewer than bytes
    pub apart : at + 2 ≤ next
    unfolding fields_of field_counts
    apart =
        let r = texts trips_file s places in
        omega (arith, (cut_next (fields_of trips_file) s at old places next l.place c).size, two_bytes r (omega (arith, cut_size (fields_of trips_file) s places)))

    -- nothing is: the next one comes
    pub left_next : n ≡ 0 → Left codes stops times s next (k + 1)
    unfolding plain_from
    left_next h =
        record {
          place = (cut_next (fields_of trips_file) s at old places next l.place c).place;
          count = omega (arith, l.count, apart);
          fault = rw (c.rest, ← e, eq-eqb n 0 h) at l.fault;
        }

    -- it is 10, 11 or 0
    pub fault_few : (n ≡ 10 → ⊥) → (n ≡ 11 → ⊥) → n ≡ 0
    unfolding plain_fault
    fault_few p q =
        let r = texts trips_file s places in
        either (days_fit (signs_from (λ c. sign_in codes c) 3 10 r) (upward time_codes_file (number 1 r) (number 2 r) times))
        (λ t. either (stops_fit (travelled (number 1 r) (number 2 r) stops))
        (λ u. rw (t, u) at e)
        (λ u. absurd (q (rw (t, u) at e))))
        (λ t. absurd (p (rw t at e)))
