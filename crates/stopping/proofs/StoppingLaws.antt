-- A trip's stop, put together from what the calls below say: its signs as a sum, its record, the nth of its trip's, the trip that it is of; and that
-- all this is what its line's view says.
use Rattle.std.specs.Prelude.{None, Option, Some}
use mathlib.Core.Path.{◌≡◌, refl, sym, ap, subst, ◌∙◌}
use mathlib.Core.Bool.{Bool, true, false, not}
use mathlib.Core.List.{List, [], ◌∷◌}
use Prim.Native.Nat.{ℕ, zero, suc, ◌+◌, ◌-◌, ◌≤◌, ◌<◌, ◌%◌}
use native.Mathlib.Omega.{arith}
use lib.Dec.{eqb, leb}
use lib.ListN.{length, get_or, drop, length-drop}
use lib.Seq.{get_or-drop, drop-drop}
use borrow.Author.Tests.{eqb-true, leb-true, lt-ltb, le-leb, lt-leb}
use Rattle.laws.specs.Tests.{pick, both, one_of, either, both_left, both_right}
use Rattle.laws.specs.Numbered.{Numbered, answered, refused}
use Rattle.file.specs.Files.{fields_of, field_counts}
use Rattle.file.specs.Format.{Fields}
use Rattle.file.specs.Records.{records_in}
use Rattle.field.specs.Kinds as kind
use Rattle.field.specs.Kinds.{kinds, kind_of}
use Rattle.field.specs.Names.{arrival, departure}
use Rattle.field.specs.Values.{is_time}
use Rattle.walk.specs.Walk.{Cuts}
use Rattle.walk.proofs.WalkLaws.{cut_first}
use Rattle.keys.specs.Keys.{key_table, key_fields, key_of, same, has, first_with, of_trip, third, none}
use Rattle.keys.specs.Ranks.{Small, AllKeyed, record_at}
use Rattle.keys.proofs.KeyLaws.{key_small, same_equal, keyed_head, keyed_rest, has_found, has_none}
use Rattle.rules.specs.Texts.{texts}
use Rattle.link.specs.Met.{number}
use Rattle.link.specs.Numeric.{numeric, NumberAt}
use Rattle.link.specs.Signs.{is_in}
use Rattle.thirteen.specs.Batch.{Batch, records_of}
use Rattle.coded.specs.Left.{left_at}
use Rattle.coded.specs.Ready.{Ready}
use Rattle.coded.proofs.LeftLaws.{all_backward}
use Rattle.trail.specs.Lists.{select, some, each, rising, travel}
use Rattle.trail.specs.Trail.{upward, ahead, after}
use Rattle.trail.proofs.ListLaws.{All, select_pass, all_rising, each_length}
use Rattle.trip.specs.Stops.{arrives, departs, timed, arrival_minute, departure_minute}
use Rattle.track.specs.declared.Visit.{Visit}
use Rattle.course.specs.Course.{minute_or, visit_of}
use Rattle.trip.specs.View.{WithSigns, nobody, trip_stop_signs, view_of, stops_of, stop_signs}
use Rattle.trip.proofs.StopLaws.{arrival_own, departure_own}
use Rattle.trip.proofs.ViewLaws.{stop_fields, view_signed_stops}
use Rattle.calling.specs.Calling.{travelled, goes_up}
use Rattle.marks.specs.Marks.{plain_signs}
use Rattle.marks.proofs.ViewOfMarks.{plain_signs_lem}
use Rattle.halts.specs.Halts.{Nth}
use Rattle.halts.proofs.HaltLaws.{walk_done}
use Rattle.halts.proofs.ViewOfHalts.{plain_stops}
use Rattle.stopping.specs.Halt.{stop_at, minute_before, arrival_of, departure_of, is_last, sign_sum, halt_of}
use Rattle.outcome.specs.Answers.{halt_numbers}
use Rattle.stopping.specs.Plain.{plain_halt, plain_nth, plain_stop}

-- THE SIGNS. A weight is no more than it is where it counts.
pub weight_most : (t : Bool) (much n : ℕ) → n ≡ pick t much 0 → n ≤ much
weight_most true much n e = omega arith
weight_most false much n e = omega arith

-- the sum of the signs that are there
pub sum_is : (signs : List ℕ) {p q r s t : Bool}
    → p ≡ is_in 40 signs → q ≡ is_in 41 signs → r ≡ is_in 120 signs → s ≡ is_in 0xA7 signs → t ≡ is_in 36 signs
    → {a b c d e : ℕ} → a ≡ pick p 1 0 → b ≡ pick q 2 0 → c ≡ pick r 4 0 → d ≡ pick s 8 0 → e ≡ pick t 16 0
    → a + b + c + d + e ≡ sign_sum signs
unfolding sign_sum
sum_is signs i j k l m v w x y z = rw (v, w, x, y, z, i, j, k, l, m)

-- THE RECORD. Its stop is a number.
pub stop_there : NumberAt 8 4
unfolding numeric kind_of kinds kind.zasspoje fields_of field_counts
stop_there = (refl, omega arith, omega arith)

-- what was read of the record that was cut is what is answered of it
pub halt_is : (codes line_stops : List Fields) (s : List ℕ) (at : ℕ) {old places : List ℕ} {end : ℕ} → Cuts (fields_of 8) s at old places end
    → {v : Visit} → v ≡ visit_of (texts 8 s places)
    → {tariff stop arriving departing signs last stops count : ℕ} {more behind is : Bool}
    → tariff ≡ third 8 (texts 8 s places) → stop ≡ number 4 (texts 8 s places) → arriving ≡ pick v.arrives 1 0 → departing ≡ pick v.departs 1 0
    → signs ≡ sign_sum (plain_signs codes line_stops (texts 8 s places)) → more ≡ behind → is ≡ both (one_of v.arrives v.departs) (not more)
    → last ≡ pick is 1 0 → stops ≡ count
    → halt_numbers (record { tariff = tariff; stop = stop; arrives = arriving; arrival = v.arrival; departs = departing; departure = v.departure; signs = signs; last = last; stops = stops })
    ≡ plain_halt codes line_stops (record_at 8 s at) behind count
unfolding halt_numbers plain_halt visit_of timed
halt_is codes line_stops s at c e a b d f g j h i k =
    let z = cut_first (fields_of 8) s at _ _ _ c in
    rw (z, a, b, d, f, g, i, h, j, k, e)

-- THE NTH. They are counted from 1 on.
pub nth_zero : (codes line_stops stops : List Fields) (line trip n : ℕ) → n ≡ 0 → refused 20 ≡ plain_nth codes line_stops stops line trip n
unfolding plain_nth
nth_zero codes line_stops stops line trip n e = rw (lt-leb 1 n (omega arith))

-- The walk that came to a place has n - 1 of the trip's records behind it.
module _ (codes line_stops : List Fields) (s order ways : List ℕ) (ready : Ready 8 s order ways) (line trip : ℕ) (l : line < none) (t : trip < none)
    (n at : ℕ) (h : n ≡ 0 → ⊥) (w : Nth s line trip (n - 1) at) where
  abbrev mine : List Fields
  mine = travelled line trip (records_in (fields_of 8) s)

  -- at the end of the file: there is no nth
  pub nth_none : length s ≤ at → refused 20 ≡ plain_nth codes line_stops (records_in (fields_of 8) s) line trip n
  unfolding plain_nth
  nth_none d =
      let e : drop (n - 1) mine ≡ [] = sym w.left ∙ walk_done s order ways ready line trip l t at d in
      let k : length mine < n = omega (arith, ap length e, length-drop (n - 1) mine) in
      rw (le-leb 1 n (omega arith), lt-leb n (length mine) k)

  -- else its record starts there
  module _ (d : at < length s) where
    abbrev others : List Fields
    others = ahead 8 (goes_up trip) (after (goes_up trip) (third 8 (record_at 8 s at))) (upward 8 line trip (records_in (fields_of 8) s))

    left_is : left_at 8 s (goes_up trip) line trip at ≡ record_at 8 s at ∷ others
    unfolding left_at
    left_is = rw (lt-ltb at (length s) d)

    first_is : drop (n - 1) mine ≡ record_at 8 s at ∷ others
    first_is = sym w.left ∙ left_is

    nth_is : get_or mine (n - 1) [] ≡ record_at 8 s at
    nth_is =
        let z : n - 1 + 0 ≡ n - 1 = omega arith in
        let g = sym (get_or-drop (n - 1) mine 0 []) in
        rw z at g ∙ ap (λ (rs : List Fields). get_or rs 0 []) first_is

    behind_is : drop 1 (left_at 8 s (goes_up trip) line trip at) ≡ drop n mine
    behind_is =
        let z : n - 1 + 1 ≡ n = omega arith in
        ap (drop 1) w.left ∙ (rw z at (drop-drop 1 (n - 1) mine))

    pub nth_there : {x : List ℕ} → x ≡ plain_halt codes line_stops (record_at 8 s at) (some timed (drop 1 (left_at 8 s (goes_up trip) line trip at))) (length mine)
        → answered x ≡ plain_nth codes line_stops (records_in (fields_of 8) s) line trip n
    unfolding plain_nth
    nth_there e =
        let k : n ≤ length mine = omega (arith, ap length first_is, length-drop (n - 1) mine) in
        rw (le-leb 1 n (omega arith), le-leb n (length mine) k, nth_is, ← behind_is, e)

-- THE TRIP. No key has a number of ten digits.
has_small : (file : ℕ) (k : List ℕ) → (Small k → ⊥) → (rs : List Fields) → AllKeyed file rs → has file k rs ≡ false
unfolding has
has_small file k h [] a = refl
has_small file k h (r ∷ rs) a =
    either (same (key_of file r) k)
    (λ t. absurd (h (subst (λ (j : List ℕ). Small j) (same_equal (key_of file r) k t) (key_small (key_fields file) r (keyed_head file r rs a)))))
    (λ t. rw t (has_small file k h rs (keyed_rest file r rs a)))

pub two_numbers : length (key_fields 6) ≡ 2
unfolding key_fields key_table
two_numbers = refl

module _ (codes trips line_stops stops : List Fields) (line trip n : ℕ) where
  trip_none : has 6 (line ∷ trip ∷ []) trips ≡ false → refused 13 ≡ plain_stop codes trips line_stops stops line trip n
  unfolding plain_stop
  trip_none e = rw e

  pub line_large : AllKeyed 6 trips → none ≤ line → refused 13 ≡ plain_stop codes trips line_stops stops line trip n
  unfolding Small
  line_large a h = trip_none (has_small 6 (line ∷ trip ∷ []) (λ s. let z = s.0 in omega arith) trips a)

  pub trip_large : AllKeyed 6 trips → none ≤ trip → refused 13 ≡ plain_stop codes trips line_stops stops line trip n
  unfolding Small
  trip_large a h = trip_none (has_small 6 (line ∷ trip ∷ []) (λ s. let z = s.1.0 in omega arith) trips a)

  -- it was looked for
  module _ {found : Option ℕ} (look : found ≡ first_with 6 (line ∷ trip ∷ []) 0 trips) where
    pub trip_missing : found ≡ None → refused 13 ≡ plain_stop codes trips line_stops stops line trip n
    trip_missing e = trip_none (has_none 6 (line ∷ trip ∷ []) 0 trips (sym look ∙ e))

    pub trip_found : (p : ℕ) → found ≡ Some p → {x : Numbered} → x ≡ plain_nth codes line_stops stops line trip n
        → x ≡ plain_stop codes trips line_stops stops line trip n
    unfolding plain_stop
    trip_found p e d = rw (has_found 6 (line ∷ trip ∷ []) 0 trips p (sym look ∙ e)) d

-- THE VIEW. The ith of a list, and of what f makes of each.
get_each : {A B : Type 0} (f : A → B) (other : B) (none : A) (l : List A) (i : ℕ) → i < length l → get_or (each f l) i other ≡ f (get_or l i none)
unfolding each
get_each f other none [] i h = absurd (omega arith)
get_each f other none (a ∷ rest) zero h = refl
get_each f other none (a ∷ rest) (suc i) h = get_each f other none rest i (omega arith)

get_all : {A : Type 0} (keeps : A → Type 0) (none : A) (l : List A) → All keeps l → (i : ℕ) → i < length l → keeps (get_or l i none)
unfolding All
get_all keeps none [] a i h = absurd (omega arith)
get_all keeps none (r ∷ rest) a zero h = a.0
get_all keeps none (r ∷ rest) a (suc i) h = get_all keeps none rest a.1 i (omega arith)

-- a stop's minutes are those of its own times
pub arrival_is : (last : ℕ) (r : Fields) → minute_or (arrival r) ≡ pick (arrives r) (arrival_minute last r) 0
unfolding minute_or arrives
arrival_is last r = either (is_time (arrival r)) (λ t. rw (t, arrival_own last r t)) (λ t. rw t)

pub departure_is : (last : ℕ) (r : Fields) → minute_or (departure r) ≡ pick (departs r) (departure_minute last r) 0
unfolding minute_or departs
departure_is last r = either (is_time (departure r)) (λ t. rw (t, departure_own last r t)) (λ t. rw t)

module _ (b : Batch) (line trip : ℕ) where
  abbrev pub ours : List Fields
  ours = travelled line trip (records_of b 8)

  abbrev pub signed : Fields → WithSigns
  signed r = record { texts = r; signs = trip_stop_signs b r }

  -- they are as many
  ours_count : length (stops_of (view_of b line) trip) ≡ length ours
  unfolding travelled
  ours_count = ap length (view_signed_stops b line trip) ∙ each_length signed (travel (third 8) trip (select (of_trip 8 line trip) (records_of b 8)))

  -- each is of the trip
  ours_own : All (λ r. of_trip 8 line trip r ≡ true) ours
  unfolding travelled travel
  ours_own =
      let own = select_pass (of_trip 8 line trip) (records_of b 8) in
      let up = all_rising (third 8) (λ r. of_trip 8 line trip r ≡ true) (select (of_trip 8 line trip) (records_of b 8)) own in
      either (eqb (trip % 2) 1)
      (λ t. rw t up)
      (λ t. rw t (all_backward (λ r. of_trip 8 line trip r ≡ true) (rising (third 8) (select (of_trip 8 line trip) (records_of b 8))) up))

  module _ (i : ℕ) (h : i < length ours) where
    abbrev pub ith : Fields
    ith = get_or ours i []

    pub ith_is : stop_at (view_of b line) trip i ≡ signed ith
    unfolding travelled
    ith_is =
        ap (λ (l : List WithSigns). get_or l i nobody) (view_signed_stops b line trip)
        ∙ get_each signed nobody [] (travel (third 8) trip (select (of_trip 8 line trip) (records_of b 8))) i h

    ith_line : number 1 ith ≡ line
    ith_line =
        let e = stop_fields line trip ith ∙ get_all (λ r. of_trip 8 line trip r ≡ true) [] ours ours_own i h in
        eqb-true (number 1 ith) line (both_left (eqb (number 1 ith) line) (eqb (number 2 ith) trip) e)

    pub ith_signs : plain_signs (records_of b 3) (records_of b 7) ith ≡ stop_signs (view_of b line) (signed ith)
    ith_signs = plain_signs_lem b ith ∙ ap (λ (k : ℕ). stop_signs (view_of b k) (signed ith)) ith_line

    halt_view : plain_halt (records_of b 3) (records_of b 7) ith (some timed (drop (i + 1) ours)) (length ours) ≡ halt_of (view_of b line) trip i
    unfolding plain_halt halt_of arrival_of departure_of is_last
    halt_view =
        rw (
          ith_is,
          ours_count,
          ← plain_stops b line trip,
          ith_signs,
          arrival_is (minute_before (view_of b line) trip i) ith,
          departure_is (minute_before (view_of b line) trip i) ith,
        )

  module _ (n : ℕ) where
    -- the nth from 1 on, if there is one
    pub nth_view : plain_nth (records_of b 3) (records_of b 7) (records_of b 8) line trip n
        ≡ pick (both (leb 1 n) (leb n (length (stops_of (view_of b line) trip)))) (answered (halt_of (view_of b line) trip (n - 1))) (refused 20)
    unfolding plain_nth
    nth_view =
        either (both (leb 1 n) (leb n (length ours)))
        (λ t.
        let p = leb-true 1 n (both_left (leb 1 n) (leb n (length ours)) t) in
        let q = leb-true n (length ours) (both_right (leb 1 n) (leb n (length ours)) t) in
        let z : n - 1 + 1 ≡ n = omega arith in
        let e = halt_view (n - 1) (omega arith) in
        let d = rw z at e in
        rw (ours_count, t) (ap (λ (vs : List ℕ). answered vs) d))
        (λ t. rw (ours_count, t))
