-- 10 and 11 find nothing exactly if the days and the stops of each trip keep their rules.
use mathlib.Core.Path.{◌≡◌, refl, subst}
use mathlib.Core.Bool.{true}
use mathlib.Core.List.{List, [], ◌∷◌}
use Prim.Native.Nat.{ℕ, zero, suc, ◌+◌, ◌<◌}
use native.Mathlib.Omega.{arith}
use lib.Dec.{eqb}
use lib.ListN.{length, get_or}
use borrow.Author.Tests.{eqb-true, eqb-false, eq-eqb}
use Rattle.laws.specs.Tests.{either}
use Rattle.file.specs.Format.{Fields}
use Rattle.thirteen.specs.Batch.{Batch, records_of}
use Rattle.link.specs.Met.{Each, number}
use Rattle.trip.specs.Days.{days_fit}
use Rattle.trip.specs.Stops.{stops_fit}
use Rattle.trip.specs.View.{view_of, trip_of, codes_of, stop_texts, trip_fault}
use Rattle.trip.specs.Stage.{fault_of_trip, trips_from, trips_fault}

module _ (b : Batch) where
  trips_each : (k : ℕ) (rs : List Fields) → (trips_from b k rs).number ≡ 0 → (i : ℕ) → i < length rs → fault_of_trip b (get_or rs i []) ≡ 0
  unfolding trips_from
  trips_each k [] e i l = absurd (omega arith)
  trips_each k (r ∷ rs) e zero l =
      either (eqb (fault_of_trip b r) 0) (λ p. eqb-true (fault_of_trip b r) 0 p) (λ p. absurd (eqb-false (fault_of_trip b r) 0 p (rw p at e)))
  trips_each k (r ∷ rs) e (suc i) l =
      either (eqb (fault_of_trip b r) 0)
      (λ p. trips_each (k + 1) rs (rw p at e) i (omega arith))
      (λ p. absurd (eqb-false (fault_of_trip b r) 0 p (rw p at e)))

  each_trips : (k : ℕ) (rs : List Fields) → ((i : ℕ) → i < length rs → fault_of_trip b (get_or rs i []) ≡ 0) → (trips_from b k rs).number ≡ 0
  unfolding trips_from
  each_trips k [] g = refl
  each_trips k (r ∷ rs) g = rw (eq-eqb (fault_of_trip b r) 0 (g 0 (omega arith))) (each_trips (k + 1) rs (λ i l. g (suc i) (omega arith)))

  -- what is asked of a trip's days, and of its stops, as the definitions by lists say it
  abbrev pub DaysFit : Fields → Type 0
  DaysFit r = days_fit (trip_of (view_of b (number 1 r)) (number 2 r)).signs (codes_of (view_of b (number 1 r)) (number 2 r)) ≡ true

  abbrev pub StopsFit : Fields → Type 0
  StopsFit r = stops_fit (stop_texts (view_of b (number 1 r)) (number 2 r)) ≡ true

  fault_fits : (r : Fields) → fault_of_trip b r ≡ 0 → DaysFit r × StopsFit r
  unfolding fault_of_trip trip_fault
  fault_fits r e =
      let v = view_of b (number 1 r) in
      let d = days_fit (trip_of v (number 2 r)).signs (codes_of v (number 2 r)) in
      let s = stops_fit (stop_texts v (number 2 r)) in
      either d
      (λ p. either s (λ q. (p, q)) (λ q. let z = rw (p, q) at e in absurd (omega arith)))
      (λ p. let z = rw p at e in absurd (omega arith))

  fits_fault : (r : Fields) → DaysFit r → StopsFit r → fault_of_trip b r ≡ 0
  unfolding fault_of_trip trip_fault
  fits_fault r p q = rw (p, q)

  pub trips_kept : (trips_fault b).number ≡ 0 → Each b 6 (λ r. DaysFit r × StopsFit r)
  unfolding trips_fault
  trips_kept e r s = subst (λ (q : Fields). DaysFit q × StopsFit q) s.2 (fault_fits _ (trips_each 1 (records_of b 6) e s.0 s.1))

  pub kept_trips : Each b 6 (λ r. DaysFit r × StopsFit r) → (trips_fault b).number ≡ 0
  unfolding trips_fault
  kept_trips g = each_trips 1 (records_of b 6) (λ i l. let f = g (get_or (records_of b 6) i []) (i, l, refl) in fits_fault _ f.0 f.1)
