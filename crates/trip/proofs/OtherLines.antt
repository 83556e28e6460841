-- Other lines can't spoil what is said of a trip: it is said of its line's view alone, and two batches that agree on the line's own records, and on
-- the signs of the codes in them, have one view of the line.
use mathlib.Core.Path.{◌≡◌, refl, ap, ◌∙◌}
use mathlib.Core.Bool.{true, false}
use mathlib.Core.List.{List, [], ◌∷◌, ◌++◌}
use Prim.Native.Nat.{ℕ, zero, suc, ◌+◌}
use Rattle.laws.specs.Tests.{either}
use Rattle.file.specs.Format.{Fields}
use Rattle.field.specs.Values.{is_empty, given}
use Rattle.field.specs.Names.{field}
use Rattle.link.specs.Met.{number}
use Rattle.link.specs.Signs.{sign_of}
use Rattle.thirteen.specs.Batch.{Batch, records_of}
use Rattle.trail.specs.Lists.{select, first_or, each}
use Rattle.trip.specs.Stage.{fault_of_trip}
use Rattle.trip.specs.View.{
  WithSigns,
  signs_from,
  trip_signs,
  line_stop_signs,
  trip_stop_signs,
  View,
  of_line,
  own_records,
  with_signs,
  view_of,
  trip_of,
  stops_of,
  trip_fault,
  runs_on,
  stop_signs,
}

-- Two readings of signs agree on each code that is given in so many fields of a record from field f on.
unfoldable pub CodesAgree : (ℕ → ℕ) → (ℕ → ℕ) → ℕ → ℕ → Fields → Type 0
CodesAgree s t f zero r = Unit
CodesAgree s t f (suc count) r = (given (field f r) ≡ true → s (number f r) ≡ t (number f r)) × CodesAgree s t (f + 1) count r

-- and so in each of these records
unfoldable pub SignsAgree : (ℕ → ℕ) → (ℕ → ℕ) → ℕ → ℕ → List Fields → Type 0
SignsAgree s t f count [] = Unit
SignsAgree s t f count (r ∷ rs) = CodesAgree s t f count r × SignsAgree s t f count rs

-- what two batches are to have in common of a line: its Linky record; its own records of Spoje, Zaslinky, Zasspoje and Caskody in their order;
-- and the signs of the codes in them, fields 3-12, 5-7 and 6-7. Nothing is asked of any other record.
pub record SharedLine (b c : Batch) (line : ℕ) : Type 0 where
  pub own_line : first_or [] (of_line line) (records_of b 5) ≡ first_or [] (of_line line) (records_of c 5)
  pub own_trips : own_records b line 6 ≡ own_records c line 6
  pub own_line_stops : own_records b line 7 ≡ own_records c line 7
  pub own_trip_stops : own_records b line 8 ≡ own_records c line 8
  pub own_time_codes : own_records b line 10 ≡ own_records c line 10
  pub trip_codes : SignsAgree (sign_of b) (sign_of c) 3 10 (own_records b line 6)
  pub line_stop_codes : SignsAgree (sign_of b) (sign_of c) 5 3 (own_records b line 7)
  pub trip_stop_codes : SignsAgree (sign_of b) (sign_of c) 6 2 (own_records b line 8)

-- the signs of a record's codes are then the same
codes_from : (s t : ℕ → ℕ) (f count : ℕ) (r : Fields) → CodesAgree s t f count r → signs_from s f count r ≡ signs_from t f count r
unfolding CodesAgree signs_from
codes_from s t f zero r h = refl
codes_from s t f (suc count) r h =
    let more = codes_from s t (f + 1) count r h.1 in
    either (is_empty (field f r))
    (λ e. rw e more)
    (λ e.
    let g : given (field f r) ≡ true = rw e in
    rw (e, more, h.0 g))

-- so are those of each of the records
signs_from_lem : (s t : ℕ → ℕ) (f count : ℕ) (rs : List Fields) → SignsAgree s t f count rs → with_signs (signs_from s f count) rs ≡ with_signs (signs_from t f count) rs
unfolding SignsAgree each
signs_from_lem s t f count [] h = refl
signs_from_lem s t f count (r ∷ rs) h = rw (codes_from s t f count r h.0, signs_from_lem s t f count rs h.1)

module _ (b c : Batch) (line : ℕ) (h : SharedLine b c line) where
  same_trips : with_signs (trip_signs b) (own_records b line 6) ≡ with_signs (trip_signs c) (own_records c line 6)
  unfolding trip_signs
  same_trips =
      signs_from_lem (sign_of b) (sign_of c) 3 10 (own_records b line 6) h.trip_codes
      ∙ ap (λ (rs : List Fields). with_signs (signs_from (sign_of c) 3 10) rs) h.own_trips

  same_line_stops : with_signs (line_stop_signs b) (own_records b line 7) ≡ with_signs (line_stop_signs c) (own_records c line 7)
  unfolding line_stop_signs
  same_line_stops =
      signs_from_lem (sign_of b) (sign_of c) 5 3 (own_records b line 7) h.line_stop_codes
      ∙ ap (λ (rs : List Fields). with_signs (signs_from (sign_of c) 5 3) rs) h.own_line_stops

  same_trip_stops : with_signs (trip_stop_signs b) (own_records b line 8) ≡ with_signs (trip_stop_signs c) (own_records c line 8)
  unfolding trip_stop_signs
  same_trip_stops =
      signs_from_lem (sign_of b) (sign_of c) 6 2 (own_records b line 8) h.trip_stop_codes
      ∙ ap (λ (rs : List Fields). with_signs (signs_from (sign_of c) 6 2) rs) h.own_trip_stops

  -- batches that share a line have one view of it
  pub view_agrees : view_of b line ≡ view_of c line
  unfolding view_of
  view_agrees = rw (h.own_line, same_trips, same_line_stops, same_trip_stops, h.own_time_codes)

  -- in both its trips run on the same days
  pub runs_agree : (trip : ℕ) (holidays : List ℕ) (d : ℕ) → runs_on (view_of b line) trip holidays d ≡ runs_on (view_of c line) trip holidays d
  runs_agree trip holidays d = ap (λ (v : View). runs_on v trip holidays d) view_agrees

  -- the same is wrong with them
  pub fault_agrees : (trip : ℕ) → trip_fault (view_of b line) trip ≡ trip_fault (view_of c line) trip
  fault_agrees trip = ap (λ (v : View). trip_fault v trip) view_agrees

  -- they have the same record and signs
  pub trip_agrees : (trip : ℕ) → trip_of (view_of b line) trip ≡ trip_of (view_of c line) trip
  trip_agrees trip = ap (λ (v : View). trip_of v trip) view_agrees

  -- the same stops in the same order
  pub stops_agree : (trip : ℕ) → stops_of (view_of b line) trip ≡ stops_of (view_of c line) trip
  stops_agree trip = ap (λ (v : View). stops_of v trip) view_agrees

  -- and each stop the same signs
  pub signs_agree : (p : WithSigns) → stop_signs (view_of b line) p ≡ stop_signs (view_of c line) p
  signs_agree p = ap (λ (v : View). stop_signs v p) view_agrees

-- the same is wrong with the trip of a Spoje record
pub record_fault_agrees : (b c : Batch) (r : Fields) → SharedLine b c (number 1 r) → fault_of_trip b r ≡ fault_of_trip c r
unfolding fault_of_trip
record_fault_agrees b c r h = fault_agrees b c (number 1 r) h (number 2 r)

-- A record of another line, wherever it stands in a file, changes none of the line's own.
pub other_own : (line : ℕ) (past : List Fields) (r : Fields) (rest : List Fields) → of_line line r ≡ false
    → select (of_line line) (past ++ (r ∷ rest)) ≡ select (of_line line) (past ++ rest)
unfolding select
other_own line [] r rest e = rw e
other_own line (a ∷ past) r rest e = rw (other_own line past r rest e)

-- nor the line's Linky record
pub other_first : (line : ℕ) (past : List Fields) (r : Fields) (rest : List Fields) → of_line line r ≡ false
    → first_or [] (of_line line) (past ++ (r ∷ rest)) ≡ first_or [] (of_line line) (past ++ rest)
unfolding first_or
other_first line [] r rest e = rw e
other_first line (a ∷ past) r rest e = rw (other_first line past r rest e)

codes_everywhere : (s t : ℕ → ℕ) → ((n : ℕ) → s n ≡ t n) → (f count : ℕ) (r : Fields) → CodesAgree s t f count r
unfolding CodesAgree
codes_everywhere s t h f zero r = tt
codes_everywhere s t h f (suc count) r = (λ _. h (number f r), codes_everywhere s t h (f + 1) count r)

-- Signs that agree on every code number, as those of one Pevnykod do, agree on the codes of any records.
pub signs_everywhere : (s t : ℕ → ℕ) → ((n : ℕ) → s n ≡ t n) → (f count : ℕ) (rs : List Fields) → SignsAgree s t f count rs
unfolding SignsAgree
signs_everywhere s t h f count [] = tt
signs_everywhere s t h f count (r ∷ rs) = (codes_everywhere s t h f count r, signs_everywhere s t h f count rs)
