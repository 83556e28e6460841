-- The sale question, put together from what the calls below say: a stop's record, the two stops, the trip that they are of, the day.
use Rattle.std.specs.Prelude.{None, Option, Some}
use mathlib.Core.Path.{◌≡◌, refl, sym, ap, ◌∙◌}
use mathlib.Core.Bool.{Bool, true, false, not}
use mathlib.Core.List.{List, [], ◌∷◌}
use Prim.Native.Nat.{ℕ, ◌≤◌, ◌<◌}
use native.Mathlib.Omega.{arith}
use lib.ListN.{length, get_or}
use borrow.Author.Tests.{not-true, not-false}
use Rattle.laws.specs.Tests.{pick, one_of, either}
use Rattle.laws.specs.Numbered.{Numbered, answered, refused}
use Rattle.calendar.specs.Answers.{numbered_day, day_answer}
use Rattle.dates.specs.Dates.{is_date, day_number}
use Rattle.calendar.proofs.Laws.{number_is_day}
use Rattle.file.specs.Files.{fields_of}
use Rattle.file.specs.Format.{Fields}
use Rattle.file.specs.Records.{records_in}
use Rattle.walk.specs.Walk.{Cuts}
use Rattle.walk.proofs.WalkLaws.{cut_first}
use Rattle.lines.proofs.OrderLaws.{found_place}
use Rattle.keys.specs.Keys.{key_table, key_fields, key_of, same, has, first_with, third, none}
use Rattle.keys.specs.KeyFiles.{KeyFile, PlaceIn}
use Rattle.keys.specs.Ranks.{AllKeyed, Small, rank, rank_of, record_at}
use Rattle.keys.proofs.KeyLaws.{same_equal, third_small, keyed_head, keyed_rest, has_found, has_none}
use Rattle.keys.proofs.KeyFileLaws.{first_with_lem}
use Rattle.rules.specs.Texts.{texts}
use Rattle.link.specs.Signs.{is_in}
use Rattle.trip.specs.Stops.{timed}
use Rattle.track.specs.declared.Visit.{Visit}
use Rattle.course.specs.Course.{visit_of}
use Rattle.trip.proofs.ViewLaws.{first_found}
use Rattle.trips.specs.Plain.{plain_runs}
use Rattle.marks.specs.Marks.{plain_signs}
use Rattle.roll.specs.Roll.{trip_record}
use Rattle.boarding.specs.Plain.{left_of, sold_of, passed_first}
use Rattle.boarding.specs.declared.Served.{Served}
use Rattle.ticket.specs.Plain.{ServedBy, stop_record, plain_sold, placed_between, plain_between, placed_to, plain_trip, plain_day, plain_sale}

-- A STOP. What was read of the record that was cut is what is known of it.
pub served_is : (codes line_stops : List Fields) (s : List ℕ) (at : ℕ) {old places : List ℕ} {end : ℕ} → Cuts (fields_of 8) s at old places end
    → {v : Visit} → v ≡ visit_of (texts 8 s places) → {request opens closes boarding leaving section : Bool}
    → request ≡ is_in 36 (plain_signs codes line_stops (texts 8 s places))
    → opens ≡ is_in 40 (plain_signs codes line_stops (texts 8 s places)) → boarding ≡ one_of opens request
    → closes ≡ is_in 41 (plain_signs codes line_stops (texts 8 s places)) → leaving ≡ one_of closes request
    → section ≡ is_in 0xA7 (plain_signs codes line_stops (texts 8 s places))
    → ServedBy codes line_stops (record_at 8 s at) (record { departs = v.departs; departure = v.departure; arrives = v.arrives; arrival = v.arrival; no_boarding = boarding; no_leaving = leaving; section = section })
unfolding visit_of
served_is codes line_stops s at c e r o b l g x =
    let z = cut_first (fields_of 8) s at _ _ _ c in
    record {
      departs_is = rw (z, e);
      departure_is = rw (z, e);
      arrives_is = rw (z, e);
      arrival_is = rw (z, e);
      boarding_is = rw (z, b, o, r);
      leaving_is = rw (z, g, l, r);
      section_is = rw (z, x);
    }

-- TWO STOPS. What the code knows of them is what their records say.
pub sold_is : (codes line_stops : List Fields) {p q : Fields} {first second : Served} → ServedBy codes line_stops p first → ServedBy codes line_stops q second
    → sold_of first second ≡ plain_sold codes line_stops p q
unfolding sold_of left_of plain_sold timed
sold_is codes line_stops a b =
    rw (a.departs_is, a.departure_is, a.boarding_is, a.section_is, b.departs_is, b.departure_is, b.arrives_is, b.arrival_is, b.leaving_is, b.section_is)

-- the first is passed before the second, or not
module _ (codes line_stops : List Fields) (p q : Fields) (trip from to : ℕ) {t : Bool} (e : t ≡ passed_first trip from to) where
  pub between_turned : not t ≡ true → refused 16 ≡ placed_between codes line_stops p q trip from to
  unfolding placed_between
  between_turned h = rw (← e, not-true t h)

  pub between_sold : not t ≡ false → {x : Numbered} → x ≡ plain_sold codes line_stops p q → x ≡ placed_between codes line_stops p q trip from to
  unfolding placed_between
  between_sold h d = rw (← e, not-false t h) d

-- A TRIP'S STOP. None has a tariff number of ten digits.
stop_none : (line trip tariff : ℕ) → none ≤ tariff → (rs : List Fields) → AllKeyed 8 rs → has 8 (line ∷ trip ∷ tariff ∷ []) rs ≡ false
unfolding has third
stop_none line trip tariff h [] a = refl
stop_none line trip tariff h (r ∷ rs) a = rw (differs, stop_none line trip tariff h rs (keyed_rest 8 r rs a))
  where
    differs : same (key_of 8 r) (line ∷ trip ∷ tariff ∷ []) ≡ false
    differs =
        either (same (key_of 8 r) (line ∷ trip ∷ tariff ∷ []))
        (λ t.
        let e : get_or (key_of 8 r) 2 0 ≡ tariff = ap (λ (k : List ℕ). get_or k 2 0) (same_equal (key_of 8 r) (line ∷ trip ∷ tariff ∷ []) t) in
        absurd (omega (arith, third_small 8 r (keyed_head 8 r rs a))))
        (λ t. t)

module _ (s : List ℕ) (f : KeyFile 8 s) (line trip tariff : ℕ) where
  pub stop_large : none ≤ tariff → has 8 (line ∷ trip ∷ tariff ∷ []) (records_in (fields_of 8) s) ≡ false
  stop_large h = stop_none line trip tariff h (records_in (fields_of 8) s) f.keys

  -- it was looked for
  module _ {found : Option ℕ} (look : found ≡ first_with 8 (line ∷ trip ∷ tariff ∷ []) 0 (records_in (fields_of 8) s)) where
    pub stop_missing : found ≡ None → has 8 (line ∷ trip ∷ tariff ∷ []) (records_in (fields_of 8) s) ≡ false
    stop_missing d = has_none 8 (line ∷ trip ∷ tariff ∷ []) 0 (records_in (fields_of 8) s) (sym look ∙ d)

    module _ (p : ℕ) (d : found ≡ Some p) where
      there : first_with 8 (line ∷ trip ∷ tariff ∷ []) 0 (records_in (fields_of 8) s) ≡ Some p
      there = sym look ∙ d

      pub stop_met : has 8 (line ∷ trip ∷ tariff ∷ []) (records_in (fields_of 8) s) ≡ true
      stop_met = has_found 8 (line ∷ trip ∷ tariff ∷ []) 0 (records_in (fields_of 8) s) p there

      -- its record starts there
      pub stop_here : line < none → trip < none → tariff < none → PlaceIn 8 s p × (p < length s)
      unfolding Small key_fields key_table
      stop_here l t h =
          let k = line ∷ trip ∷ tariff ∷ [] in
          let small : Small k = (l, (t, (h, tt))) in
          let q = found_place (fields_of 8) (rank_of 8) s (rank k) p f.legal (sym (first_with_lem 8 k f.keyed small refl 0 (records_in (fields_of 8) s) f.keys) ∙ there) in
          (q.place, q.within)

      pub stop_is : stop_record (records_in (fields_of 8) s) line trip tariff ≡ record_at 8 s p
      stop_is = first_found 8 s (line ∷ trip ∷ tariff ∷ []) p f.legal there

-- THE SECOND STOP, where the first's record is p: it isn't there, the trip doesn't run, or the two are asked.
module _ (codes lines line_stops stops times : List Fields) (p : Fields) (line trip : ℕ) (r : Fields) (d from to : ℕ) (holidays : List ℕ) where
  pub to_missing : has 8 (line ∷ trip ∷ to ∷ []) stops ≡ false → refused 14 ≡ placed_to codes lines line_stops stops times p line trip r d from to holidays
  unfolding placed_to
  to_missing e = rw e

  module _ (e : has 8 (line ∷ trip ∷ to ∷ []) stops ≡ true) {t : Bool} (g : t ≡ plain_runs codes lines times line trip r holidays d) where
    pub to_another_day : not t ≡ true → refused 15 ≡ placed_to codes lines line_stops stops times p line trip r d from to holidays
    unfolding placed_to
    to_another_day h = rw (e, ← g, not-true t h)

    pub to_placed : not t ≡ false → {q : Fields} → stop_record stops line trip to ≡ q → {x : Numbered} → x ≡ placed_between codes line_stops p q trip from to
        → x ≡ placed_to codes lines line_stops stops times p line trip r d from to holidays
    unfolding placed_to
    to_placed h i j = rw (e, ← g, not-false t h, i) j

-- THE DATE, where its number was asked for: it isn't real, or the number is its day's.
module _ (date month year : ℕ) {f : Option ℕ} (e : numbered_day f ≡ day_answer date month year) where
  pub date_none : f ≡ None → is_date date month year ≡ false
  unfolding numbered_day day_answer
  date_none k =
      let z : refused 12 ≡ pick (is_date date month year) (answered (day_number date month year ∷ [])) (refused 12) = rw k at e in
      either (is_date date month year)
      (λ t. let n : ◌≡◌ {A = ℕ} 12 0 = ap (λ (a : Numbered). a.number) (rw t at z) in absurd (omega arith))
      (λ t. t)

  module _ (d : ℕ) (k : f ≡ Some d) where
    pub date_day : (is_date date month year ≡ true) × (d ≡ day_number date month year)
    unfolding numbered_day day_answer
    date_day =
        let z : answered (d ∷ []) ≡ pick (is_date date month year) (answered (day_number date month year ∷ [])) (refused 12) = rw k at e in
        either (is_date date month year)
        (λ t. (t, ap (λ (a : Numbered). get_or a.values 0 0) (rw t at z)))
        (λ t. let n : ◌≡◌ {A = ℕ} 0 12 = ap (λ (a : Numbered). a.number) (rw t at z) in absurd (omega arith))

    pub date_small : d ≤ 73048
    date_small = omega (arith, date_day.1, number_is_day date month year date_day.0)

-- THE FIRST STOP, THE TRIP, THE DAY: what is missing refuses, else the next is asked.
module _ (codes lines trips line_stops stops times : List Fields) (line trip : ℕ) where
  -- the first stop isn't there, or its record is p
  module _ (r : Fields) (d from to : ℕ) (holidays : List ℕ) where
    pub trip_missing_stop : has 8 (line ∷ trip ∷ from ∷ []) stops ≡ false
        → refused 14 ≡ plain_trip codes lines trips line_stops stops times line trip r d from to holidays
    unfolding plain_trip
    trip_missing_stop e = rw e

    pub trip_placed : has 8 (line ∷ trip ∷ from ∷ []) stops ≡ true → {p : Fields} → stop_record stops line trip from ≡ p
        → {x : Numbered} → x ≡ placed_to codes lines line_stops stops times p line trip r d from to holidays
        → x ≡ plain_trip codes lines trips line_stops stops times line trip r d from to holidays
    unfolding plain_trip plain_between placed_to
    trip_placed e i j = rw (e, i) j

  -- there is no such trip, or its record is r
  module _ (d from to : ℕ) (holidays : List ℕ) where
    pub day_missing : has 6 (line ∷ trip ∷ []) trips ≡ false → refused 13 ≡ plain_day codes lines trips line_stops stops times line trip d from to holidays
    unfolding plain_day
    day_missing e = rw e

    pub day_found : has 6 (line ∷ trip ∷ []) trips ≡ true → {r : Fields} → trip_record trips line trip ≡ r
        → {x : Numbered} → x ≡ plain_trip codes lines trips line_stops stops times line trip r d from to holidays
        → x ≡ plain_day codes lines trips line_stops stops times line trip d from to holidays
    unfolding plain_day
    day_found e i j = rw (e, i) j

  -- there is no such date, or it is day d
  module _ (date month year from to : ℕ) (holidays : List ℕ) where
    pub sale_no_date : is_date date month year ≡ false → refused 12 ≡ plain_sale codes lines trips line_stops stops times line trip date month year from to holidays
    unfolding plain_sale
    sale_no_date e = rw e

    pub sale_day : {d : ℕ} → (is_date date month year ≡ true) × (d ≡ day_number date month year)
        → {x : Numbered} → x ≡ plain_day codes lines trips line_stops stops times line trip d from to holidays
        → x ≡ plain_sale codes lines trips line_stops stops times line trip date month year from to holidays
    unfolding plain_sale
    sale_day h i = rw (h.0, ← h.1) i
