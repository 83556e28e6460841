-- What a line's view says of a trip, as the batch's own records say it: its record, its signs, its time codes, its stops, and what is wrong with it.
use Rattle.std.specs.Prelude.{None, Option, Some}
use mathlib.Core.Path.{◌≡◌, refl, sym, ap, ◌∙◌}
use mathlib.Core.Bool.{Bool, true, false}
use mathlib.Core.List.{List, [], ◌∷◌, ◌++◌}
use Prim.Native.Nat.{ℕ, ◌+◌}
use native.Mathlib.Omega.{arith}
use lib.Dec.{eqb}
use lib.ListN.{length}
use Rattle.laws.specs.Tests.{pick, both, either, clash}
use Rattle.file.specs.Files.{fields_of}
use Rattle.file.specs.Format.{Fields, written_record}
use Rattle.file.specs.Records.{records_in}
use Rattle.walk.specs.Walk.{LegalFrom}
use Rattle.lines.proofs.LineLaws.{size_one, place_on, place_start}
use Rattle.keys.specs.Keys.{key_table, key_fields, numbers, key_of, same, has, first_with, of_trip, third}
use Rattle.keys.specs.Ranks.{record_at}
use Rattle.keys.specs.KeyFiles.{PlaceIn, records_from}
use Rattle.keys.proofs.KeyLaws.{same_self, same_equal}
use Rattle.link.specs.Met.{number}
use Rattle.link.proofs.HasLaws.{one_left, one_right}
use Rattle.thirteen.specs.Batch.{Batch, file_in, records_of}
use Rattle.trail.specs.Lists.{select, first_or, each, rising, travel}
use Rattle.trail.specs.Trail.{upward, Once}
use Rattle.trail.proofs.ListLaws.{select_same, select_twice, each_select, each_travel}
use Rattle.trip.specs.Days.{days_fit}
use Rattle.trip.specs.Stops.{stops_fit}
use Rattle.trip.specs.Stage.{fault_of_trip}
use Rattle.trip.specs.View.{
  WithSigns,
  nobody,
  signs_from,
  trip_signs,
  line_stop_signs,
  trip_stop_signs,
  of_line,
  own_records,
  with_signs,
  view_of,
  numbered,
  trip_of,
  codes_of,
  stops_of,
  stop_texts,
  trip_fault,
  line_stop_of,
}

-- a test beside one that holds
both_held : (a b : Bool) → both a b ≡ both a (both b true)
both_held true true = refl
both_held true false = refl
both_held false b = refl

-- Where a file's keys begin with fields 1 and 2, as in Spoje, Zaslinky, Zasspoje and Caskody, a record is of the trip exactly if these name it.
pub of_trip_fields : (file : ℕ) (more : List ℕ) → key_fields file ≡ 1 ∷ 2 ∷ more → (line trip : ℕ) (r : Fields)
    → both (eqb (number 1 r) line) (eqb (number 2 r) trip) ≡ of_trip file line trip r
unfolding of_trip numbers same
of_trip_fields file more e line trip r = rw e (both_held (eqb (number 1 r) line) (eqb (number 2 r) trip))

-- so in Spoje
pub trip_fields : (line trip : ℕ) (r : Fields) → both (eqb (number 1 r) line) (eqb (number 2 r) trip) ≡ of_trip 6 line trip r
unfolding key_fields key_table
trip_fields line trip r = of_trip_fields 6 [] refl line trip r

-- in Zasspoje
pub stop_fields : (line trip : ℕ) (r : Fields) → both (eqb (number 1 r) line) (eqb (number 2 r) trip) ≡ of_trip 8 line trip r
unfolding key_fields key_table
stop_fields line trip r = of_trip_fields 8 (3 ∷ []) refl line trip r

-- and in Caskody
pub code_fields : (line trip : ℕ) (r : Fields) → both (eqb (number 1 r) line) (eqb (number 2 r) trip) ≡ of_trip 10 line trip r
unfolding key_fields key_table
code_fields line trip r = of_trip_fields 10 (3 ∷ []) refl line trip r

-- the trip's records among its line's are the trip's among all
own_codes : (b : Batch) (line trip : ℕ) → select (λ r. eqb (number 2 r) trip) (own_records b line 10) ≡ select (of_trip 10 line trip) (records_of b 10)
own_codes b line trip =
    select_twice (λ r. eqb (number 2 r) trip) (of_line line) (records_of b 10)
    ∙ select_same (λ r. both (eqb (number 1 r) line) (eqb (number 2 r) trip)) (of_trip 10 line trip) (code_fields line trip) (records_of b 10)

own_stops : (b : Batch) (line trip : ℕ) → select (λ r. eqb (number 2 r) trip) (own_records b line 8) ≡ select (of_trip 8 line trip) (records_of b 8)
own_stops b line trip =
    select_twice (λ r. eqb (number 2 r) trip) (of_line line) (records_of b 8)
    ∙ select_same (λ r. both (eqb (number 1 r) line) (eqb (number 2 r) trip)) (of_trip 8 line trip) (stop_fields line trip) (records_of b 8)

-- the trip's time codes in the view are its Caskody records of the batch, by rising number
pub view_codes : (b : Batch) (line trip : ℕ) → codes_of (view_of b line) trip ≡ upward 10 line trip (records_of b 10)
unfolding codes_of view_of upward
view_codes b line trip = ap (rising (third 10)) (own_codes b line trip)

-- a record with its signs
abbrev signed : (Fields → List ℕ) → Fields → WithSigns
signed signs r = record { texts = r; signs = signs r }

each_self : (signs : Fields → List ℕ) (l : List Fields) → each (λ p. p.texts) (with_signs signs l) ≡ l
unfolding each
each_self signs [] = refl
each_self signs (r ∷ l) = ap (λ (k : List Fields). r ∷ k) (each_self signs l)

-- its stops in the view are its Zasspoje records of the batch in travel order, each with its signs
pub view_signed_stops : (b : Batch) (line trip : ℕ)
    → stops_of (view_of b line) trip ≡ with_signs (trip_stop_signs b) (travel (third 8) trip (select (of_trip 8 line trip) (records_of b 8)))
unfolding stops_of view_of
view_signed_stops b line trip =
    let f = signed (trip_stop_signs b) in
    let own = own_records b line 8 in
    ap (travel (λ p. third 8 p.texts) trip) (sym (each_select f (numbered trip) own))
    ∙ sym (each_travel f (λ p. third 8 p.texts) trip (select (λ r. eqb (number 2 r) trip) own))
    ∙ ap (λ (l : List Fields). with_signs (trip_stop_signs b) (travel (third 8) trip l)) (own_stops b line trip)

-- and without signs these records
pub view_stops : (b : Batch) (line trip : ℕ)
    → stop_texts (view_of b line) trip ≡ travel (third 8) trip (select (of_trip 8 line trip) (records_of b 8))
view_stops b line trip =
    ap (λ (l : List WithSigns). each (λ p. p.texts) l) (view_signed_stops b line trip)
    ∙ each_self (trip_stop_signs b) (travel (third 8) trip (select (of_trip 8 line trip) (records_of b 8)))

-- The first that passes a test.
module _ {A : Type 0} (other : A) where
  -- of a selection: the first that passes both
  pub first_both : (p q : A → Bool) (l : List A) → first_or other p (select q l) ≡ first_or other (λ a. both (q a) (p a)) l
  unfolding first_or select
  first_both p q [] = refl
  first_both p q (a ∷ rest) =
      either (q a)
      (λ t. rw (t, first_both p q rest))
      (λ t. rw (t, first_both p q rest))

  -- tests that say the same of each find the same
  pub first_same : (p q : A → Bool) → ((a : A) → p a ≡ q a) → (l : List A) → first_or other p l ≡ first_or other q l
  unfolding first_or
  first_same p q h [] = refl
  first_same p q h (a ∷ rest) = rw (h a, first_same p q h rest)

module _ {A B : Type 0} (f : A → B) where
  -- of what f makes of each: what f makes of the first
  pub first_each : (other : A) (test : B → Bool) (l : List A) → first_or (f other) test (each f l) ≡ f (first_or other (λ a. test (f a)) l)
  unfolding first_or each
  first_each other test [] = refl
  first_each other test (a ∷ rest) =
      either (test (f a))
      (λ t. rw t)
      (λ t. rw t (first_each other test rest))

-- an empty record has no signs
no_signs : (b : Batch) → (trip_signs b [] ≡ []) × (line_stop_signs b [] ≡ [])
unfolding trip_signs line_stop_signs signs_from
no_signs b = (refl, refl)

-- the first of the line's own records with this second number, with its signs: it is the first of all with the line and that number
first_own : (signs : Fields → List ℕ) → signs [] ≡ [] → (line n : ℕ) (l : List Fields)
    → first_or nobody (λ p. eqb (number 2 p.texts) n) (with_signs signs (select (of_line line) l))
    ≡ signed signs (first_or [] (λ r. both (eqb (number 1 r) line) (eqb (number 2 r) n)) l)
first_own signs e line n l =
    let f = signed signs in
    let d : nobody ≡ f [] = ap (λ (k : List ℕ). record { texts = []; signs = k }) (sym e) in
    ap (λ (z : WithSigns). first_or z (λ p. eqb (number 2 p.texts) n) (with_signs signs (select (of_line line) l))) d
    ∙ first_each f [] (λ p. eqb (number 2 p.texts) n) (select (of_line line) l)
    ∙ ap f (first_both [] (λ r. eqb (number 2 r) n) (of_line line) l)

-- the view's trip of a number is the batch's first Spoje record of the line and that number, with its signs
pub view_trip_first : (b : Batch) (line trip : ℕ) (q : Fields)
    → q ≡ first_or [] (λ r. both (eqb (number 1 r) line) (eqb (number 2 r) trip)) (records_of b 6)
    → trip_of (view_of b line) trip ≡ record { texts = q; signs = trip_signs b q }
unfolding trip_of view_of
view_trip_first b line trip q e = first_own (trip_signs b) (no_signs b).0 line trip (records_of b 6) ∙ ap (signed (trip_signs b)) (sym e)

-- the view's stop of a tariff number is the batch's first Zaslinky record of the line and that number, with its signs
pub view_line_stop : (b : Batch) (line tariff : ℕ) (q : Fields)
    → q ≡ first_or [] (λ r. both (eqb (number 1 r) line) (eqb (number 2 r) tariff)) (records_of b 7)
    → line_stop_of (view_of b line) tariff ≡ record { texts = q; signs = line_stop_signs b q }
unfolding line_stop_of view_of
view_line_stop b line tariff q e = first_own (line_stop_signs b) (no_signs b).1 line tariff (records_of b 7) ∙ ap (signed (line_stop_signs b)) (sym e)

-- a key that none of these records has isn't that of one of them
has_not : (file : ℕ) (k : List ℕ) (past : List Fields) (r : Fields) (rest : List Fields) → has file k (past ++ (r ∷ rest)) ≡ false
    → same (key_of file r) k ≡ false
unfolding has
has_not file k [] r rest e = either (same (key_of file r) k) (λ t. clash (one_left (same (key_of file r) k) (has file k rest) t) e) (λ t. t)
has_not file k (a ∷ past) r rest e =
    has_not file k past r rest
    (either (has file k (past ++ (r ∷ rest)))
    (λ t. clash (one_right (same (key_of file a) k) (has file k (past ++ (r ∷ rest))) t) e)
    (λ t. t))

-- where no two records have one key, the first with a record's key is that record
pub first_once : (file : ℕ) (past : List Fields) (r : Fields) (rest : List Fields) → Once file (past ++ (r ∷ rest))
    → first_or [] (λ q. same (key_of file q) (key_of file r)) (past ++ (r ∷ rest)) ≡ r
unfolding first_or Once
first_once file [] r rest o = rw (same_self (key_of file r))
first_once file (a ∷ past) r rest o =
    either (same (key_of file a) (key_of file r))
    (λ t.
    let e = same_equal (key_of file a) (key_of file r) t in
    let d : same (key_of file r) (key_of file a) ≡ true = rw e (same_self (key_of file r)) in
    clash d (has_not file (key_of file a) past r rest o.0))
    (λ t. rw t (first_once file past r rest o.1))

-- A record found by its key: the place where it is, or one beside p where there is none.
abbrev at_place : ℕ → Option ℕ → ℕ
at_place p (Some at) = at
at_place p None = p + 1

module _ (file : ℕ) (s k : List ℕ) (p : ℕ) where
  first_from_lem : (at : ℕ) (rs : List Fields) → PlaceIn file s at → records_from file s at ≡ rs → first_with file k at rs ≡ Some p
      → first_or [] (λ q. same (key_of file q) k) rs ≡ record_at file s p
  unfolding first_or first_with
  first_from_lem at [] h e d =
      let z : p + 1 ≡ p = ap (at_place p) d in
      absurd (omega arith)
  first_from_lem at (r ∷ rs) h e d =
      either (same (key_of file r) k)
      (λ t.
      let c : Some at ≡ Some p = rw t at d in
      let z : at ≡ p = ap (at_place p) c in
      rw (t, ← z, e))
      (λ t.
      let w = place_on (fields_of file) s at h (r ∷ []) rs e (at + length (written_record r)) (omega (arith, size_one r)) in
      rw t (first_from_lem (at + length (written_record r)) rs w.place w.left (rw t at d)))

  -- the first record with a key, where it is found at a place, is the record that starts there
  pub first_found : LegalFrom (fields_of file) s 0 → first_with file k 0 (records_in (fields_of file) s) ≡ Some p
      → first_or [] (λ q. same (key_of file q) k) (records_in (fields_of file) s) ≡ record_at file s p
  first_found l d = first_from_lem 0 (records_in (fields_of file) s) (place_start (fields_of file) s l) refl d

-- a key of two numbers is found by fields 1 and 2
found_fields : (line trip : ℕ) (q : Fields) → both (eqb (number 1 q) line) (eqb (number 2 q) trip) ≡ same (key_of 6 q) (line ∷ trip ∷ [])
unfolding key_fields key_table numbers same
found_fields line trip q = both_held (eqb (number 1 q) line) (eqb (number 2 q) trip)

-- a Spoje record that is found by its line and number is the view's trip of that number, with its signs
pub view_trip_found : (b : Batch) (line trip p : ℕ) → LegalFrom (fields_of 6) (file_in b 6) 0 → first_with 6 (line ∷ trip ∷ []) 0 (records_of b 6) ≡ Some p
    → (r : Fields) → r ≡ record_at 6 (file_in b 6) p → trip_of (view_of b line) trip ≡ record { texts = r; signs = trip_signs b r }
view_trip_found b line trip p l d r e =
    view_trip_first b line trip r
    (e
    ∙ sym (first_found 6 (file_in b 6) (line ∷ trip ∷ []) p l d)
    ∙ sym (first_same [] (λ q. both (eqb (number 1 q) line) (eqb (number 2 q) trip)) (λ q. same (key_of 6 q) (line ∷ trip ∷ [])) (found_fields line trip) (records_of b 6)))

-- the key of a Spoje record
same_fields : (q r : Fields) → both (eqb (number 1 q) (number 1 r)) (eqb (number 2 q) (number 2 r)) ≡ same (key_of 6 q) (key_of 6 r)
unfolding key_fields key_table numbers same
same_fields q r = both_held (eqb (number 1 q) (number 1 r)) (eqb (number 2 q) (number 2 r))

-- the first Spoje record of a trip is the trip's record
first_trip : (b : Batch) → Once 6 (records_of b 6) → (past : List Fields) (r : Fields) (rest : List Fields) → records_of b 6 ≡ past ++ (r ∷ rest)
    → r ≡ first_or [] (λ q. both (eqb (number 1 q) (number 1 r)) (eqb (number 2 q) (number 2 r))) (records_of b 6)
first_trip b o past r rest e =
    let once : Once 6 (past ++ (r ∷ rest)) = rw e at o in
    sym
    (first_same [] (λ q. both (eqb (number 1 q) (number 1 r)) (eqb (number 2 q) (number 2 r))) (λ q. same (key_of 6 q) (key_of 6 r)) (λ q. same_fields q r)
    (records_of b 6)
    ∙ ap (λ (l : List Fields). first_or [] (λ q. same (key_of 6 q) (key_of 6 r)) l) e
    ∙ first_once 6 past r rest once)

-- where no two Spoje records have one key, each is its line's trip of its number, with its signs
pub view_trip : (b : Batch) → Once 6 (records_of b 6) → (past : List Fields) (r : Fields) (rest : List Fields) → records_of b 6 ≡ past ++ (r ∷ rest)
    → trip_of (view_of b (number 1 r)) (number 2 r) ≡ record { texts = r; signs = trip_signs b r }
view_trip b o past r rest e = view_trip_first b (number 1 r) (number 2 r) r (first_trip b o past r rest e)

-- and what is wrong with it is what is wrong with its signs and its Caskody records, and then with its Zasspoje records in travel order
pub view_fault : (b : Batch) → Once 6 (records_of b 6) → (past : List Fields) (r : Fields) (rest : List Fields) → records_of b 6 ≡ past ++ (r ∷ rest)
    → fault_of_trip b r
    ≡ pick (days_fit (trip_signs b r) (upward 10 (number 1 r) (number 2 r) (records_of b 10)))
    (pick (stops_fit (travel (third 8) (number 2 r) (select (of_trip 8 (number 1 r) (number 2 r)) (records_of b 8)))) 0 11)
    10
unfolding fault_of_trip trip_fault
view_fault b o past r rest e =
    rw (
      view_trip b o past r rest e,
      view_codes b (number 1 r) (number 2 r),
      view_stops b (number 1 r) (number 2 r),
    )
