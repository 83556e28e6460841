-- What is wrong with one trip, by what was found of its days and of its stops.
use mathlib.Core.Path.{◌≡◌, refl, sym, ap, ◌∙◌}
use mathlib.Core.Bool.{Bool, true, false, not}
use mathlib.Core.List.{List}
use Prim.Native.Nat.{ℕ, ◌≤◌, ◌<◌}
use lib.ListN.{length}
use Rattle.laws.specs.Tests.{pick, clash}
use Rattle.file.specs.Format.{Text, Fields}
use Rattle.field.specs.Names.{time_codes_file}
use Rattle.field.specs.Values.{all_digits, value}
use Rattle.keys.specs.Keys.{none, key_fields, key_table}
use Rattle.link.specs.Met.{number}
use Rattle.link.specs.Numeric.{NumberAt}
use Rattle.link.specs.Signs.{sign_in}
use Rattle.link.proofs.KindOfLinks.{keyed_numeric}
use Rattle.rules.specs.Texts.{texts, Kinded}
use Rattle.walk.specs.Walk.{part_of}
use Rattle.amiss.proofs.RecordLaws.{number_part, number_text}
use Rattle.trail.specs.Trail.{upward}
use Rattle.trip.specs.Days.{days_fit}
use Rattle.trip.specs.Stage.{trips_file}
use Rattle.trip.specs.Stops.{stops_fit}
use Rattle.trip.specs.View.{signs_from}
use Rattle.calling.specs.Calling.{travelled}
use Rattle.tripfault.specs.Plain.{plain_fault}

-- the line and the number of a trip whose record was cut can be read
pub record Named (f : ℕ) (r : Fields) (t : Text) : Type 0 where
  pub digits : all_digits t ≡ true
  pub most : length t ≤ 18
  pub worth : value t ≡ number f r
  pub small : value t < none

trip_numbers : NumberAt trips_file 1 × NumberAt trips_file 2
unfolding key_fields key_table
trip_numbers = let n = keyed_numeric trips_file in (n.0, n.1.0)

module _ (s places : List ℕ) (k : Kinded trips_file s places) (t : Text) where
  pub named_line : t ≡ part_of s places 0 → Named 1 (texts trips_file s places) t
  named_line e =
      let n = number_part k 1 e trip_numbers.0 in
      record { digits = n.digits; most = n.most; worth = ap (λ (x : Text). value x) (sym (number_text k 1 e trip_numbers.0)); small = n.small }

  pub named_trip : t ≡ part_of s places 1 → Named 2 (texts trips_file s places) t
  named_trip e =
      let n = number_part k 2 e trip_numbers.1 in
      record { digits = n.digits; most = n.most; worth = ap (λ (x : Text). value x) (sym (number_text k 2 e trip_numbers.1)); small = n.small }

module _ (codes stops times : List Fields) (r : Fields) (line trip : ℕ) (a : line ≡ number 1 r) (b : trip ≡ number 2 r) where
  abbrev days : Bool
  days = days_fit (signs_from (λ c. sign_in codes c) 3 10 r) (upward time_codes_file line trip times)

  abbrev ends : Bool
  ends = stops_fit (travelled line trip stops)

  -- by the tests of its days and of its stops
  fault_is : plain_fault codes stops times r ≡ pick days (pick ends 0 11) 10
  unfolding plain_fault
  fault_is = rw (a, b)

  -- its days are wrong
  pub fault_days : (fit : Bool) → fit ≡ days → not fit ≡ true → 10 ≡ plain_fault codes stops times r
  fault_days true e h = clash refl (sym h)
  fault_days false e h = sym (fault_is ∙ rw (sym e))

  -- they aren't, and its stops decide
  pub fault_stops : (fit : Bool) → fit ≡ days → not fit ≡ false → (stand : Bool) → stand ≡ ends → pick stand 0 11 ≡ plain_fault codes stops times r
  fault_stops true e h stand d = sym (fault_is ∙ rw (sym e, sym d))
  fault_stops false e h stand d = clash refl h
