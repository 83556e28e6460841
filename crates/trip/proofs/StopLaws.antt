-- A stop's minutes: where a time stands, its minute is its own, wherever the walk was; where none does, the walk stays where it was.
use mathlib.Core.Path.{◌≡◌}
use mathlib.Core.Bool.{true, false}
use mathlib.Core.List.{List, [], ◌∷◌}
use Prim.Native.Nat.{ℕ, ◌≤◌, ◌<◌}
use native.Mathlib.Omega.{arith}
use borrow.Author.Tests.{leb-true}
use Rattle.laws.specs.Tests.{both, either, both_left, both_right}
use Rattle.file.specs.Format.{Text, Fields}
use Rattle.field.specs.Values.{is_time, minute_of}
use Rattle.field.specs.Names.{arrival, departure}
use Rattle.field.proofs.ValueLaws.{minute_bound}
use Rattle.trip.specs.Stops.{minute_at, never_falls, arrival_minute, departure_minute, times_fit, minute_behind}

minute_own : (last : ℕ) (t : Text) → is_time t ≡ true → minute_at last t ≡ minute_of t
unfolding minute_at
minute_own last t e = rw e

minute_stays : (last : ℕ) (t : Text) → is_time t ≡ false → minute_at last t ≡ last
unfolding minute_at
minute_stays last t e = rw e

-- a stop's arrival is that of its own time
pub arrival_own : (last : ℕ) (r : Fields) → is_time (arrival r) ≡ true → arrival_minute last r ≡ minute_of (arrival r)
unfolding arrival_minute
arrival_own last r e = minute_own last (arrival r) e

-- and so is its departure
pub departure_own : (last : ℕ) (r : Fields) → is_time (departure r) ≡ true → departure_minute last r ≡ minute_of (departure r)
unfolding departure_minute
departure_own last r e = minute_own (arrival_minute last r) (departure r) e

-- where a stop has no departure, the walk stands behind it at its arrival, and one with neither time leaves the walk where it was
pub departure_none : (last : ℕ) (r : Fields) → is_time (departure r) ≡ false → departure_minute last r ≡ arrival_minute last r
unfolding departure_minute
departure_none last r e = minute_stays (arrival_minute last r) (departure r) e

pub arrival_none : (last : ℕ) (r : Fields) → is_time (arrival r) ≡ false → arrival_minute last r ≡ last
unfolding arrival_minute
arrival_none last r e = minute_stays last (arrival r) e

never_back : (last : ℕ) (t : Text) → never_falls last t ≡ true → last ≤ minute_at last t
unfolding never_falls minute_at
never_back last t e =
    either (is_time t)
    (λ p. rw p (leb-true last (minute_of t) (rw p at e)))
    (λ p. rw p (omega arith))

-- where times never fall, a stop's arrival isn't before the last time, and its departure isn't before its arrival
pub stop_rises : (last : ℕ) (r : Fields) (rs : List Fields) → times_fit last (r ∷ rs) ≡ true
    → (last ≤ arrival_minute last r) × (arrival_minute last r ≤ departure_minute last r) × (times_fit (departure_minute last r) rs ≡ true)
unfolding times_fit arrival_minute departure_minute
stop_rises last r rs e =
    let a = never_falls last (arrival r) in
    let b = never_falls (minute_at last (arrival r)) (departure r) in
    let c = times_fit (minute_at (minute_at last (arrival r)) (departure r)) rs in
    let f = both_left (both a b) c e in
    (never_back last (arrival r) (both_left a b f), never_back (minute_at last (arrival r)) (departure r) (both_right a b f), both_right (both a b) c e)

-- and behind them all the walk stands no lower
pub never_lower : (last : ℕ) (rs : List Fields) → times_fit last rs ≡ true → last ≤ minute_behind last rs
unfolding minute_behind
never_lower last [] e = omega arith
never_lower last (r ∷ rs) e =
    let h = stop_rises last r rs e in
    omega (arith, h.0, h.1, never_lower (departure_minute last r) rs h.2)

in_day_lem : (last : ℕ) (t : Text) → last < 1440 → minute_at last t < 1440
unfolding minute_at
in_day_lem last t h = either (is_time t) (λ p. rw p (omega (arith, minute_bound t p))) (λ p. rw p h)

-- the walk's minute is one of the day's 1440
pub minute_in_day : (last : ℕ) (rs : List Fields) → last < 1440 → minute_behind last rs < 1440
unfolding minute_behind arrival_minute departure_minute
minute_in_day last [] h = h
minute_in_day last (r ∷ rs) h =
    let a = minute_at last (arrival r) in
    minute_in_day (minute_at a (departure r)) rs (in_day_lem a (departure r) (in_day_lem last (arrival r) h))
