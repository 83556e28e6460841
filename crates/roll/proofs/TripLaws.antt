-- A trip's record is the one that is found by its key, and a key that a record has is of small numbers.
use Rattle.std.specs.Prelude.{Some}
use mathlib.Core.Path.{◌≡◌, ◌∙◌}
use mathlib.Core.Bool.{true, false}
use mathlib.Core.List.{List, [], ◌∷◌}
use mathlib.Core.Logic.{◌⊎◌, inl, inr}
use Prim.Native.Nat.{ℕ, ◌≤◌, ◌<◌}
use native.Mathlib.Omega.{arith}
use lib.Dec.{eqb}
use Rattle.laws.specs.Tests.{both, either, never}
use Rattle.file.specs.Files.{fields_of}
use Rattle.file.specs.Format.{Fields}
use Rattle.file.specs.Records.{records_in}
use Rattle.walk.specs.Walk.{LegalFrom}
use Rattle.keys.specs.Keys.{key_fields, key_table, key_of, numbers, same, has, first_with, of_trip, none}
use Rattle.keys.specs.KeyFiles.{KeyFile}
use Rattle.keys.specs.Ranks.{AllKeyed, Small, record_at}
use Rattle.keys.proofs.KeyLaws.{key_small}
use Rattle.link.specs.Met.{number}
use Rattle.link.proofs.HasLaws.{one_cases, same_equal}
use Rattle.trip.specs.Stage.{trips_file}
use Rattle.trip.proofs.ViewLaws.{trip_fields, first_same, first_found}
use Rattle.roll.specs.Roll.{trip_record}

-- a key that a record has is of numbers below a thousand million
has_small : (file : ℕ) (k : List ℕ) (rs : List Fields) → AllKeyed file rs → has file k rs ≡ true → Small k
unfolding has AllKeyed
has_small file k [] a e = never e
has_small file k (r ∷ rs) a e = go (one_cases (same (key_of file r) k) (has file k rs) e) (has_small file k rs a.1)
  where
    go : (same (key_of file r) k ≡ true) ⊎ (has file k rs ≡ true) → (has file k rs ≡ true → Small k) → Small k
    go (inl p) rest = rw (same_equal (key_of file r) k p) at (key_small (key_fields file) r a.0)
    go (inr p) rest = rest p

-- so there is no trip of a line or a number above
module _ (s : List ℕ) (f : KeyFile trips_file s) (line trip : ℕ) where
  small_trip : has trips_file (line ∷ trip ∷ []) (records_in (fields_of trips_file) s) ≡ true → (line < none) × (trip < none)
  unfolding Small
  small_trip e = let h = has_small trips_file (line ∷ trip ∷ []) (records_in (fields_of trips_file) s) f.keys e in (h.0, h.1.0)

  pub no_line : none ≤ line → has trips_file (line ∷ trip ∷ []) (records_in (fields_of trips_file) s) ≡ false
  no_line h =
      either (has trips_file (line ∷ trip ∷ []) (records_in (fields_of trips_file) s))
      (λ t. absurd (omega (arith, (small_trip t).0)))
      (λ t. t)

  pub no_trip : none ≤ trip → has trips_file (line ∷ trip ∷ []) (records_in (fields_of trips_file) s) ≡ false
  no_trip h =
      either (has trips_file (line ∷ trip ∷ []) (records_in (fields_of trips_file) s))
      (λ t. absurd (omega (arith, (small_trip t).1)))
      (λ t. t)

-- Spoje's key is its fields 1 and 2
pub trip_key : (line trip : ℕ) (q : Fields) → both (eqb (number 1 q) line) (eqb (number 2 q) trip) ≡ same (key_of trips_file q) (line ∷ trip ∷ [])
unfolding of_trip key_fields key_table numbers
trip_key line trip q = trip_fields line trip q

-- so the record that is found by a trip's key is the trip's
pub trip_found : (s : List ℕ) (line trip p : ℕ) → LegalFrom (fields_of trips_file) s 0
    → first_with trips_file (line ∷ trip ∷ []) 0 (records_in (fields_of trips_file) s) ≡ Some p
    → trip_record (records_in (fields_of trips_file) s) line trip ≡ record_at trips_file s p
trip_found s line trip p l e =
    first_same [] (λ q. both (eqb (number 1 q) line) (eqb (number 2 q) trip)) (λ q. same (key_of trips_file q) (line ∷ trip ∷ [])) (trip_key line trip) (records_in (fields_of trips_file) s)
    ∙ first_found trips_file s (line ∷ trip ∷ []) p l e
