-- Document 01's refusal 11 over a list of a trip's records in travel order: the walk along the list says the same as the statements over its places.
use mathlib.Core.Path.{◌≡◌, refl}
use mathlib.Core.Bool.{Bool, true, false, not}
use mathlib.Core.List.{List, [], ◌∷◌}
use Prim.Native.Nat.{ℕ, zero, suc, ◌<◌}
use native.Mathlib.Omega.{arith}
use lib.Dec.{eqb, leb, ltb}
use lib.ListN.{length, get_or, take, drop}
use borrow.Author.Tests.{eqb-true, ne_eqb, le-leb, leb-true, lt-ltb, le-ltb, ltb-true, ltb-false, not-true}
use Rattle.laws.specs.Tests.{both, one_of, either, clash, both_left, both_right, both_true, both_false}
use Rattle.file.specs.Format.{Text, Fields}
use Rattle.field.specs.Values.{is_empty, value, is_time}
use Rattle.field.specs.Names.{kilometres, arrival, departure}
use Rattle.field.proofs.ValueLaws.{time_digits}
use Rattle.field.proofs.AdmitLaws.{of_three}
use Rattle.link.proofs.HasLaws.{one_left, one_right}
use Rattle.trail.specs.Lists.{some, tally}
use Rattle.trip.specs.Stops.{arrives, departs, timed, passes, blank, first_fits, place_fits, places_fit, times_fit, lengths_fit, stops_fit}
use Rattle.kept.specs.Trips.{StopsKept}
use Rattle.kept.proofs.PlaceLaws.{one_none, First, Last, ends, two_tally, before_is, behind_is}
use Rattle.kept.proofs.TimeLaws.{times_rise, rise_times, lengths_grow, grow_lengths}

-- refusal 11's statements over the places of a list
abbrev pub Listed : List Fields → Type 0
Listed rs = StopsKept ℕ (λ i. i < length rs) (λ i. get_or rs i []) (λ i j. i < j)

-- the walk tries each record by what stands before it and behind it
places_each : (begun : Bool) (rs : List Fields) → places_fit begun rs ≡ true
    → (i : ℕ) → i < length rs → place_fits (one_of begun (some timed (take i rs))) (some timed (drop (suc i) rs)) (get_or rs i []) ≡ true
unfolding places_fit some
places_each begun [] e i h = absurd (omega arith)
places_each begun (r ∷ rs) e zero h = rw (one_none begun) (both_left (place_fits begun (some timed rs) r) (places_fit (one_of begun (timed r)) rs) e)
places_each begun (r ∷ rs) e (suc i) h =
    rw (← of_three begun (timed r) (some timed (take i rs)))
    (places_each (one_of begun (timed r)) rs (both_right (place_fits begun (some timed rs) r) (places_fit (one_of begun (timed r)) rs) e) i (omega arith))

each_places : (begun : Bool) (rs : List Fields)
    → ((i : ℕ) → i < length rs → place_fits (one_of begun (some timed (take i rs))) (some timed (drop (suc i) rs)) (get_or rs i []) ≡ true)
    → places_fit begun rs ≡ true
unfolding places_fit some
each_places begun [] f = refl
each_places begun (r ∷ rs) f =
    both_true (place_fits begun (some timed rs) r) (places_fit (one_of begun (timed r)) rs)
    (rw (one_none begun) at (f 0 (omega arith)))
    (each_places (one_of begun (timed r)) rs (λ i h. rw (of_three begun (timed r) (some timed (take i rs))) (f (suc i) (omega arith))))

-- a time isn't empty, so a record with a time isn't blank
time_given : (t : Text) → is_time t ≡ true → is_empty t ≡ false
time_given t e = let d = time_digits t e in ne_eqb (length t) 0 (λ z. omega (arith, d.least))

timed_given : (r : Fields) → timed r ≡ true → blank r ≡ false
unfolding timed blank arrives departs
timed_given r t =
    either (is_time (arrival r))
    (λ p. both_false (is_empty (arrival r)) (is_empty (departure r)) (time_given (arrival r) p))
    (λ p.
    let d : is_time (departure r) ≡ true = rw p at t in
    either (is_empty (arrival r))
    (λ q. rw (q, time_given (departure r) d))
    (λ q. rw q))

-- an arrival is a time, and so is a departure
arrives_timed : (r : Fields) → arrives r ≡ true → timed r ≡ true
unfolding timed
arrives_timed r e = one_left (arrives r) (departs r) e

departs_timed : (r : Fields) → departs r ≡ true → timed r ≡ true
unfolding timed
departs_timed r e = one_right (arrives r) (departs r) e

-- what the first with a time has
first_reads : (r : Fields) → first_fits r ≡ true → (departs r ≡ true) × (arrives r ≡ false) × (value (kilometres r) ≡ 0)
unfolding first_fits
first_reads r e =
    let a = both_left (departs r) (both (not (arrives r)) (eqb (value (kilometres r)) 0)) e in
    let b = both_right (departs r) (both (not (arrives r)) (eqb (value (kilometres r)) 0)) e in (
      a,
      not-true (arrives r) (both_left (not (arrives r)) (eqb (value (kilometres r)) 0) b),
      eqb-true (value (kilometres r)) 0 (both_right (not (arrives r)) (eqb (value (kilometres r)) 0) b),
    )

reads_first : (r : Fields) → departs r ≡ true → arrives r ≡ false → value (kilometres r) ≡ 0 → first_fits r ≡ true
unfolding first_fits
reads_first r d a k = rw (d, a, k)

-- FROM THE WALK TO THE STATEMENTS, with the first place with a time and the last.
module _ (rs : List Fields) (f e : ℕ) (first : First timed [] rs f) (last : Last timed [] rs e) where
  -- the test of each place
  abbrev Tried : Type 0
  Tried = (i : ℕ) → i < length rs → place_fits (ltb f i) (ltb i e) (get_or rs i []) ≡ true

  places_tried : places_fit false rs ≡ true → Tried
  places_tried p i h = rw (← before_is timed [] rs f first i h, ← behind_is timed [] rs e last i h) (places_each false rs p i h)

  tried_places : Tried → places_fit false rs ≡ true
  tried_places p = each_places false rs (λ i h. rw (before_is timed [] rs f first i h, behind_is timed [] rs e last i h) (p i h))

  module _ (two : f < e) (p : Tried) where
    at_first : first_fits (get_or rs f []) ≡ true
    unfolding place_fits
    at_first = rw (first.holds, le-ltb f f (omega arith)) at (p f first.inside)

    at_last : arrives (get_or rs e []) ≡ true
    unfolding place_fits
    at_last = rw (last.holds, lt-ltb f e two, le-ltb e e (omega arith)) at (p e last.inside)

    -- a record with a time between them departs
    between_departs : (i : ℕ) → i < length rs → f < i → i < e → timed (get_or rs i []) ≡ true → departs (get_or rs i []) ≡ true
    unfolding place_fits
    between_departs i h a b t = rw (t, lt-ltb f i a, lt-ltb i e b) at (p i h)

    -- none there is blank
    between_filled : (i : ℕ) → i < length rs → f < i → i < e → blank (get_or rs i []) ≡ false
    unfolding place_fits
    between_filled i h a b =
        either (timed (get_or rs i []))
        (λ t. timed_given (get_or rs i []) t)
        (λ t. not-true (blank (get_or rs i [])) (rw (t, lt-ltb f i a, lt-ltb i e b) at (p i h)))

    -- one outside doesn't pass
    passes_inside : (i : ℕ) → i < length rs → timed (get_or rs i []) ≡ false → passes (get_or rs i []) ≡ true → (f < i) × (i < e)
    unfolding place_fits
    passes_inside i h t s =
        either (both (ltb f i) (ltb i e))
        (λ u. (ltb-true f i (both_left (ltb f i) (ltb i e) u), ltb-true i e (both_right (ltb f i) (ltb i e) u)))
        (λ u. clash s (not-true (passes (get_or rs i [])) (rw (t, u) at (p i h))))

-- what the walk says, the statements say, where no record with a time has a `|` or `<`, as its own rule has it
pub stops_kept : (rs : List Fields) → ((i : ℕ) → i < length rs → timed (get_or rs i []) ≡ true → passes (get_or rs i []) ≡ false)
    → stops_fit rs ≡ true → Listed rs
unfolding stops_fit
stops_kept rs pure s =
    let a = leb 2 (tally timed rs) in
    let b = places_fit false rs in
    let c = times_fit 0 rs in
    let d = lengths_fit 0 rs in
    let s₁ = both_right a (both b (both c d)) s in
    let s₂ = both_right b (both c d) s₁ in
    let w = ends timed [] rs (leb-true 2 (tally timed rs) (both_left a (both b (both c d)) s)) in
    let f = w.0 in
    let e = w.1 in
    let p = places_tried rs f e w.2 w.3 (both_left b (both c d) s₁) in
    let k = first_reads (get_or rs f []) (at_first rs f e w.2 w.3 w.4 p) in
    let times = times_rise 0 rs (both_left c d s₂) in
    let lengths = lengths_grow 0 rs (both_right c d s₂) in
    record {
      first = f;
      last = e;
      first_stop = w.2.inside;
      last_stop = w.3.inside;
      two = w.4;
      none_ahead = λ i h. w.2.none i;
      none_behind = w.3.none;
      first_departs = k.0;
      first_no_arrival = k.1;
      first_kilometre = k.2;
      last_arrives = at_last rs f e w.2 w.3 w.4 p;
      no_blank = between_filled rs f e w.2 w.3 w.4 p;
      departs_between = between_departs rs f e w.2 w.3 w.4 p;
      passes_between = λ i h g.
          either (timed (get_or rs i []))
          (λ t. clash g (pure i h t))
          (λ t. passes_inside rs f e w.2 w.3 w.4 p i h t g);
      own_times = times.own;
      times = times.pairs;
      lengths = lengths.pairs;
    }

-- FROM THE STATEMENTS TO THE WALK.
module _ (rs : List Fields) (k : Listed rs) where
  abbrev f : ℕ
  f = k.first

  abbrev e : ℕ
  e = k.last

  is_first : First timed [] rs f
  is_first = record {
    inside = k.first_stop;
    holds = departs_timed (get_or rs f []) k.first_departs;
    none = λ i h. k.none_ahead i (omega (arith, k.first_stop)) h;
  }

  is_last : Last timed [] rs e
  is_last = record { inside = k.last_stop; holds = arrives_timed (get_or rs e []) k.last_arrives; none = k.none_behind }

  -- each record with a time fits its place
  timed_fits : (i : ℕ) → i < length rs → timed (get_or rs i []) ≡ true → place_fits (ltb f i) (ltb i e) (get_or rs i []) ≡ true
  unfolding place_fits
  timed_fits i h t =
      either (ltb f i)
      (λ u.
      let a = ltb-true f i u in
      either (ltb i e)
      (λ v. rw (t, u, v) (k.departs_between i h a (ltb-true i e v) t))
      (λ v.
      let z : i ≡ e = either (ltb e i) (λ y. clash t (k.none_behind i h (ltb-true e i y))) (λ y. omega (arith, ltb-false i e v, ltb-false e i y)) in
      rw (t, u, v) (rw z k.last_arrives)))
      (λ u.
      let z : i ≡ f = either (ltb i f) (λ y. clash t (k.none_ahead i h (ltb-true i f y))) (λ y. omega (arith, ltb-false f i u, ltb-false i f y)) in
      rw (t, u) (rw z (reads_first (get_or rs f []) k.first_departs k.first_no_arrival k.first_kilometre)))

  -- and each without one
  untimed_fits : (i : ℕ) → i < length rs → timed (get_or rs i []) ≡ false → place_fits (ltb f i) (ltb i e) (get_or rs i []) ≡ true
  unfolding place_fits
  untimed_fits i h t =
      either (both (ltb f i) (ltb i e))
      (λ u.
      let a = ltb-true f i (both_left (ltb f i) (ltb i e) u) in
      let b = ltb-true i e (both_right (ltb f i) (ltb i e) u) in
      rw (t, u, k.no_blank i h a b))
      (λ u.
      either (passes (get_or rs i []))
      (λ s.
      let m = k.passes_between i h s in
      clash (both_true (ltb f i) (ltb i e) (lt-ltb f i m.0) (lt-ltb i e m.1)) u)
      (λ s. rw (t, u, s)))

-- what the statements say, the walk says
pub kept_stops : (rs : List Fields) → Listed rs → stops_fit rs ≡ true
unfolding stops_fit
kept_stops rs k =
    let a = leb 2 (tally timed rs) in
    let b = places_fit false rs in
    let c = times_fit 0 rs in
    let d = lengths_fit 0 rs in
    let first = is_first rs k in
    let last = is_last rs k in
    both_true a (both b (both c d))
    (le-leb 2 (tally timed rs) (two_tally timed [] rs k.first k.last k.two k.last_stop first.holds last.holds))
    (both_true b (both c d)
    (tried_places rs k.first k.last first last (λ i h. either (timed (get_or rs i [])) (timed_fits rs k i h) (untimed_fits rs k i h)))
    (both_true c d
    (rise_times 0 rs (record { from = λ i h t m. omega arith; own = k.own_times; pairs = k.times }))
    (grow_lengths 0 rs (record { from = λ i h g. omega arith; pairs = k.lengths }))))
