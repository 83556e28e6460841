-- Document 01's rules for a trip, refusals 10 and 11, as quantified statements over its records. Whose records they are, and in which order they are
-- passed, is said apart (Own.antt): here these are any.
use Rattle.std.specs.Prelude.{ℕ, ◌≤◌, ◌≡◌, ◌⊎◌, true, false}
use Rattle.file.specs.Format.{Text, Fields}
use Rattle.signs.specs.Signs.{is_day_sign}
use Rattle.field.specs.Values.{given, value, minute_of}
use Rattle.field.specs.Names.{mark, kilometres, arrival, departure}
use Rattle.trip.specs.Days.{type_of}
use Rattle.trip.specs.Stops.{arrives, departs, timed, passes, blank}

-- REFUSAL 10. `Code` tells which are the trip's time codes, and `Sign` which signs its fixed codes have.
pub record DaysKept (Code : Fields → Type 0) (Sign : ℕ → Type 0) : Type 0 where
  -- its typed records don't bear two different marks
  pub one_mark : (p q : Fields) → Code p → Code q → 1 ≤ type_of p → 1 ≤ type_of q → mark p ≡ mark q
  -- it hasn't two different types out of 5, 6, 7, 8
  pub one_week : (p q : Fields) → Code p → Code q → 5 ≤ type_of p → type_of p ≤ 8 → 5 ≤ type_of q → type_of q ≤ 8 → type_of p ≡ type_of q
  -- nor type 1 with 7 or 8
  pub one_no_week : (p q : Fields) → Code p → Code q → type_of p ≡ 1 → (type_of q ≡ 7) ⊎ (type_of q ≡ 8) → ⊥
  -- nor type 3 with another type
  pub three_alone : (p q : Fields) → Code p → Code q → type_of p ≡ 3 → 1 ≤ type_of q → type_of q ≤ 8 → type_of q ≡ 3
  -- or with a day sign
  pub three_no_sign : (p : Fields) (x : ℕ) → Code p → Sign x → type_of p ≡ 3 → is_day_sign x ≡ false

-- t is a time of this record: its arrival or its departure, where that is a time
abbrev pub TimeOf : Fields → Text → Type 0
TimeOf r t = ((arrives r ≡ true) × (t ≡ arrival r)) ⊎ ((departs r ≡ true) × (t ≡ departure r))

-- REFUSAL 11. The trip's records stand at places of some kind: `Stop` tells which places are theirs, `at` which record stands there, and `Ahead i j` that
-- place i is passed before place j.
pub record StopsKept (Place : Type 0) (Stop : Place → Type 0) (at : Place → Fields) (Ahead : Place → Place → Type 0) : Type 0 where
  -- at least two records have a time: the first such, and the last
  pub first : Place
  pub last : Place
  pub first_stop : Stop first
  pub last_stop : Stop last
  pub two : Ahead first last
  pub none_ahead : (i : Place) → Stop i → Ahead i first → timed (at i) ≡ false
  pub none_behind : (i : Place) → Stop i → Ahead last i → timed (at i) ≡ false
  -- the first has a departure, no arrival, kilometre 0
  pub first_departs : departs (at first) ≡ true
  pub first_no_arrival : arrives (at first) ≡ false
  pub first_kilometre : value (kilometres (at first)) ≡ 0
  -- the last has an arrival
  pub last_arrives : arrives (at last) ≡ true
  -- between them no record has both time fields empty, and one with a time has a departure
  pub no_blank : (i : Place) → Stop i → Ahead first i → Ahead i last → blank (at i) ≡ false
  pub departs_between : (i : Place) → Stop i → Ahead first i → Ahead i last → timed (at i) ≡ true → departs (at i) ≡ true
  -- and only there may `|` and `<` stand
  pub passes_between : (i : Place) → Stop i → passes (at i) ≡ true → Ahead first i × Ahead i last
  -- times, arrival before departure, never fall
  pub own_times : (i : Place) → Stop i → arrives (at i) ≡ true → departs (at i) ≡ true → minute_of (arrival (at i)) ≤ minute_of (departure (at i))
  pub times : (i j : Place) → Stop i → Stop j → Ahead i j → (t u : Text) → TimeOf (at i) t → TimeOf (at j) u → minute_of t ≤ minute_of u
  -- kilometres never fall
  pub lengths : (i j : Place) → Stop i → Stop j → Ahead i j → given (kilometres (at i)) ≡ true → given (kilometres (at j)) ≡ true
      → value (kilometres (at i)) ≤ value (kilometres (at j))
