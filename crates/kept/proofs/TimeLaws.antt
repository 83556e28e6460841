-- Times and kilometres never fall: the walks over a list of a trip's records say the same as the statements over any two of its places.
use mathlib.Core.Path.{◌≡◌, refl, ◌∙◌}
use mathlib.Core.Bool.{true, false}
use mathlib.Core.List.{List, [], ◌∷◌}
use mathlib.Core.Logic.{◌⊎◌, inl, inr}
use Prim.Native.Nat.{ℕ, zero, suc, ◌≤◌, ◌<◌}
use native.Mathlib.Omega.{arith}
use lib.Dec.{leb}
use lib.ListN.{length, get_or}
use borrow.Author.Tests.{le-leb, leb-true}
use Rattle.laws.specs.Tests.{both, either, clash, both_left, both_right, both_true}
use Rattle.file.specs.Format.{Text, Fields}
use Rattle.field.specs.Values.{given, value, is_time, minute_of}
use Rattle.field.specs.Names.{kilometres, arrival, departure}
use Rattle.trip.specs.Stops.{arrives, departs, never_falls, arrival_minute, departure_minute, times_fit, lengths_fit}
use Rattle.trip.proofs.StopLaws.{arrival_own, departure_own, departure_none, arrival_none, stop_rises}
use Rattle.kept.specs.Trips.{TimeOf}

-- TIMES. No time at any place is before `last`; times never fall in a record, nor from one place to a later one.
pub record Rises (last : ℕ) (rs : List Fields) : Type 0 where
  pub from : (i : ℕ) → i < length rs → (t : Text) → TimeOf (get_or rs i []) t → last ≤ minute_of t
  pub own : (i : ℕ) → i < length rs → arrives (get_or rs i []) ≡ true → departs (get_or rs i []) ≡ true
      → minute_of (arrival (get_or rs i [])) ≤ minute_of (departure (get_or rs i []))
  pub pairs : (i j : ℕ) → i < length rs → j < length rs → i < j → (t u : Text) → TimeOf (get_or rs i []) t → TimeOf (get_or rs j []) u
      → minute_of t ≤ minute_of u

-- where the walk doesn't fall at a record, each of its times is from the last on, and the walk goes on from no earlier
time_between : (last : ℕ) (r : Fields) → last ≤ arrival_minute last r → arrival_minute last r ≤ departure_minute last r
    → (t : Text) → TimeOf r t → (last ≤ minute_of t) × (minute_of t ≤ departure_minute last r)
unfolding arrives departs
time_between last r h g t (inl (p, e)) = rw e (omega (arith, arrival_own last r p))
time_between last r h g t (inr (p, e)) = rw e (omega (arith, departure_own last r p))

-- the walk goes on from the last time, or from one of the record
departs_from : (last : ℕ) (r : Fields)
    → (departure_minute last r ≡ last) ⊎ ((t : Text) × TimeOf r t × (departure_minute last r ≡ minute_of t))
unfolding arrives departs
departs_from last r =
    either (is_time (departure r))
    (λ p. inr (departure r, inr (p, refl), departure_own last r p))
    (λ p.
    let e = departure_none last r p in
    either (is_time (arrival r))
    (λ q. inr (arrival r, inl (q, refl), e ∙ arrival_own last r q))
    (λ q. inl (e ∙ arrival_none last r q)))

-- one record more in front of others
module _ (last : ℕ) (r : Fields) (rs : List Fields) where
  module _ (a : last ≤ arrival_minute last r) (b : arrival_minute last r ≤ departure_minute last r) (k : Rises (departure_minute last r) rs) where
    more_from : (i : ℕ) → i < length (r ∷ rs) → (t : Text) → TimeOf (get_or (r ∷ rs) i []) t → last ≤ minute_of t
    more_from zero h t m = (time_between last r a b t m).0
    more_from (suc i) h t m = omega (arith, k.from i (omega arith) t m)

    more_own : (i : ℕ) → i < length (r ∷ rs) → arrives (get_or (r ∷ rs) i []) ≡ true → departs (get_or (r ∷ rs) i []) ≡ true
        → minute_of (arrival (get_or (r ∷ rs) i [])) ≤ minute_of (departure (get_or (r ∷ rs) i []))
    unfolding arrives departs
    more_own zero h p q = omega (arith, arrival_own last r p, departure_own last r q)
    more_own (suc i) h p q = k.own i (omega arith) p q

    more_pairs : (i j : ℕ) → i < length (r ∷ rs) → j < length (r ∷ rs) → i < j
        → (t u : Text) → TimeOf (get_or (r ∷ rs) i []) t → TimeOf (get_or (r ∷ rs) j []) u → minute_of t ≤ minute_of u
    more_pairs i zero h g l t u m n = absurd (omega arith)
    more_pairs zero (suc j) h g l t u m n = omega (arith, (time_between last r a b t m).1, k.from j (omega arith) u n)
    more_pairs (suc i) (suc j) h g l t u m n = k.pairs i j (omega arith) (omega arith) (omega arith) t u m n

    more_rises : Rises last (r ∷ rs)
    more_rises = record { from = more_from; own = more_own; pairs = more_pairs }

  -- conversely the walk doesn't fall at the first record
  module _ (k : Rises last (r ∷ rs)) where
    arrival_rises : last ≤ arrival_minute last r
    unfolding arrives
    arrival_rises =
        either (is_time (arrival r))
        (λ p. omega (arith, arrival_own last r p, k.from 0 (omega arith) (arrival r) (inl (p, refl))))
        (λ p. omega (arith, arrival_none last r p))

    departure_rises : arrival_minute last r ≤ departure_minute last r
    unfolding arrives departs
    departure_rises =
        either (is_time (departure r))
        (λ p.
        either (is_time (arrival r))
        (λ q. omega (arith, arrival_own last r q, departure_own last r p, k.own 0 (omega arith) q p))
        (λ q. omega (arith, arrival_none last r q, departure_own last r p, k.from 0 (omega arith) (departure r) (inr (p, refl)))))
        (λ p. omega (arith, departure_none last r p))

    -- and the others rise from where it goes on
    rest_rises : Rises (departure_minute last r) rs
    rest_rises = record {
      from = λ i h t m. go i h t m (departs_from last r);
      own = λ i h. k.own (suc i) (omega arith);
      pairs = λ i j h g l. k.pairs (suc i) (suc j) (omega arith) (omega arith) (omega arith);
    }
      where
        go : (i : ℕ) → i < length rs → (t : Text) → TimeOf (get_or rs i []) t
            → (departure_minute last r ≡ last) ⊎ ((u : Text) × TimeOf r u × (departure_minute last r ≡ minute_of u)) → departure_minute last r ≤ minute_of t
        go i h t m (inl e) = omega (arith, k.from (suc i) (omega arith) t m)
        go i h t m (inr w) = omega (arith, w.2, k.pairs 0 (suc i) (omega arith) (omega arith) (omega arith) w.0 t w.1 m)

-- where the walk never falls, times never fall from place to place
pub times_rise : (last : ℕ) (rs : List Fields) → times_fit last rs ≡ true → Rises last rs
times_rise last [] e = record {
  from = λ i h. absurd (omega arith);
  own = λ i h. absurd (omega arith);
  pairs = λ i j h. absurd (omega arith);
}
times_rise last (r ∷ rs) e =
    let w = stop_rises last r rs e in
    more_rises last r rs w.0 w.1 (times_rise (departure_minute last r) rs w.2)

-- and conversely
pub rise_times : (last : ℕ) (rs : List Fields) → Rises last rs → times_fit last rs ≡ true
unfolding times_fit never_falls arrival_minute departure_minute
rise_times last [] k = refl
rise_times last (r ∷ rs) k =
    let a = never_falls last (arrival r) in
    let b = never_falls (arrival_minute last r) (departure r) in
    both_true (both a b) (times_fit (departure_minute last r) rs)
    (both_true a b
    (le-leb last (arrival_minute last r) (arrival_rises last r rs k))
    (le-leb (arrival_minute last r) (departure_minute last r) (departure_rises last r rs k)))
    (rise_times (departure_minute last r) rs (rest_rises last r rs k))

-- KILOMETRES. None that are given are below `last`, and they never fall from one place to a later one.
pub record Grows (last : ℕ) (rs : List Fields) : Type 0 where
  pub from : (i : ℕ) → i < length rs → given (kilometres (get_or rs i [])) ≡ true → last ≤ value (kilometres (get_or rs i []))
  pub pairs : (i j : ℕ) → i < length rs → j < length rs → i < j → given (kilometres (get_or rs i [])) ≡ true
      → given (kilometres (get_or rs j [])) ≡ true → value (kilometres (get_or rs i [])) ≤ value (kilometres (get_or rs j []))

module _ (last : ℕ) (r : Fields) (rs : List Fields) where
  abbrev length_of : ℕ
  length_of = value (kilometres r)

  -- one record more in front of others, with kilometres
  more_grows : given (kilometres r) ≡ true → last ≤ length_of → Grows length_of rs → Grows last (r ∷ rs)
  more_grows t h k = record { from = from; pairs = pairs }
    where
      from : (i : ℕ) → i < length (r ∷ rs) → given (kilometres (get_or (r ∷ rs) i [])) ≡ true → last ≤ value (kilometres (get_or (r ∷ rs) i []))
      from zero l g = h
      from (suc i) l g = omega (arith, k.from i (omega arith) g)

      pairs : (i j : ℕ) → i < length (r ∷ rs) → j < length (r ∷ rs) → i < j → given (kilometres (get_or (r ∷ rs) i [])) ≡ true
          → given (kilometres (get_or (r ∷ rs) j [])) ≡ true → value (kilometres (get_or (r ∷ rs) i [])) ≤ value (kilometres (get_or (r ∷ rs) j []))
      pairs i zero l m n g d = absurd (omega arith)
      pairs zero (suc j) l m n g d = k.from j (omega arith) d
      pairs (suc i) (suc j) l m n g d = k.pairs i j (omega arith) (omega arith) (omega arith) g d

  -- or without
  same_grows : given (kilometres r) ≡ false → Grows last rs → Grows last (r ∷ rs)
  same_grows t k = record { from = from; pairs = pairs }
    where
      from : (i : ℕ) → i < length (r ∷ rs) → given (kilometres (get_or (r ∷ rs) i [])) ≡ true → last ≤ value (kilometres (get_or (r ∷ rs) i []))
      from zero l g = clash g t
      from (suc i) l g = k.from i (omega arith) g

      pairs : (i j : ℕ) → i < length (r ∷ rs) → j < length (r ∷ rs) → i < j → given (kilometres (get_or (r ∷ rs) i [])) ≡ true
          → given (kilometres (get_or (r ∷ rs) j [])) ≡ true → value (kilometres (get_or (r ∷ rs) i [])) ≤ value (kilometres (get_or (r ∷ rs) j []))
      pairs i zero l m n g d = absurd (omega arith)
      pairs zero (suc j) l m n g d = clash g t
      pairs (suc i) (suc j) l m n g d = k.pairs i j (omega arith) (omega arith) (omega arith) g d

  -- conversely the others grow, from the first's kilometres on where it has them
  module _ (k : Grows last (r ∷ rs)) where
    rest_grows : (n : ℕ) → ((i : ℕ) → i < length rs → given (kilometres (get_or rs i [])) ≡ true → n ≤ value (kilometres (get_or rs i []))) → Grows n rs
    rest_grows n f = record { from = f; pairs = λ i j h g l. k.pairs (suc i) (suc j) (omega arith) (omega arith) (omega arith) }

-- where the walk never falls, kilometres never fall from place to place
pub lengths_grow : (last : ℕ) (rs : List Fields) → lengths_fit last rs ≡ true → Grows last rs
unfolding lengths_fit
lengths_grow last [] e = record { from = λ i h. absurd (omega arith); pairs = λ i j h. absurd (omega arith) }
lengths_grow last (r ∷ rs) e =
    let n = value (kilometres r) in
    either (given (kilometres r))
    (λ t.
    let b : both (leb last n) (lengths_fit n rs) ≡ true = rw t at e in
    more_grows last r rs t
    (leb-true last n (both_left (leb last n) (lengths_fit n rs) b))
    (lengths_grow n rs (both_right (leb last n) (lengths_fit n rs) b)))
    (λ t. same_grows last r rs t (lengths_grow last rs (rw t at e)))

-- and conversely
pub grow_lengths : (last : ℕ) (rs : List Fields) → Grows last rs → lengths_fit last rs ≡ true
unfolding lengths_fit
grow_lengths last [] k = refl
grow_lengths last (r ∷ rs) k =
    let n = value (kilometres r) in
    either (given (kilometres r))
    (λ t.
    rw t (both_true (leb last n) (lengths_fit n rs)
    (le-leb last n (k.from 0 (omega arith) t))
    (grow_lengths n rs (rest_grows last r rs k n (λ i h g. k.pairs 0 (suc i) (omega arith) (omega arith) (omega arith) t g)))))
    (λ t. rw t (grow_lengths last rs (rest_grows last r rs k last (λ i h g. k.from (suc i) (omega arith) g))))
