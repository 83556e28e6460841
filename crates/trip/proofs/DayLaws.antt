-- The laws that pin the days: what types 2, 3 and 4 do, and what it is that two marks differ.
use mathlib.Core.Path.{◌≡◌, refl, sym, ap, ◌∙◌}
use mathlib.Core.Bool.{Bool, true, false, not}
use mathlib.Core.List.{List, [], ◌∷◌, ◌++◌}
use mathlib.Core.Logic.{◌⊎◌, inl, inr}
use Prim.Native.Nat.{ℕ, zero, suc, ◌+◌, ◌-◌, ◌≤◌, ◌<◌}
use native.Mathlib.Omega.{arith}
use lib.Dec.{eqb, leb}
use lib.ListN.{length, get_or, get_or-eq_default}
use borrow.Author.Tests.{eq-eqb, ne_eqb, eqb-true, eqb-false, leb-true, leb-false, not-true}
use Rattle.laws.specs.Tests.{pick, both, one_of, either, never, clash, both_left, both_right}
use Rattle.periods.specs.Periods.{period_holds}
use Rattle.file.specs.Format.{Text, Fields}
use Rattle.field.specs.Values.{is_empty, given, is_byte, among, day_of_text}
use Rattle.field.specs.Names.{time_codes_file, mark, code_type, code_from, code_to}
use Rattle.field.specs.Rules.{asks, closes, mark_rule, dates_rule, time_code_rule, meets}
use Rattle.field.specs.Kinds.{kinds, caskody, kind_of, admits}
use Rattle.field.specs.Stage.{first_unkind}
use Rattle.rules.proofs.KindLaws.{kind_at}
use Rattle.keys.specs.Keys.{same}
use Rattle.link.specs.Signs.{first_byte}
use Rattle.link.proofs.HasLaws.{one_left, one_right, same_equal, equal_same}
use Rattle.trail.specs.Lists.{some}
use Rattle.trip.specs.Days.{
  type_of,
  has_type,
  holds_day,
  holds,
  other_mark,
  two_marks,
  signs_allow,
  week_allows,
  week_allows_in,
  weeks_allow,
  all_allow,
  codes_allow,
  is_valid,
}
use Rattle.trip.specs.View.{View, trip_of, codes_of, runs_on}

-- TYPE 3.
-- a trip with a type 3 record is allowed on just the dates of its type 3 records
pub three_alone : (signs : List ℕ) (codes : List Fields) (d : ℕ) (holidays : List ℕ) → has_type 3 codes ≡ true
    → codes_allow signs codes d holidays ≡ holds 3 d codes
unfolding codes_allow
three_alone signs codes d holidays e = rw e

-- and so it runs on just those within its line's validity
pub runs_three : (v : View) (trip : ℕ) (holidays : List ℕ) (d : ℕ) → has_type 3 (codes_of v trip) ≡ true
    → runs_on v trip holidays d ≡ both (is_valid v.line d) (holds 3 d (codes_of v trip))
unfolding runs_on
runs_three v trip holidays d e =
    ap (λ (b : Bool). both (is_valid v.line d) b) (three_alone (trip_of v trip).signs (codes_of v trip) d holidays e)

-- without time codes, its day signs alone say when it may run
pub no_codes : (signs : List ℕ) (d : ℕ) (holidays : List ℕ) → codes_allow signs [] d holidays ≡ signs_allow signs d holidays
unfolding codes_allow all_allow weeks_allow week_allows week_allows_in has_type holds some
no_codes signs d holidays = go (signs_allow signs d holidays)
  where
    go : (b : Bool) → both b true ≡ b
    go true = refl
    go false = refl

-- ONE DAY: types 2 and 3.
-- a text of one byte, by that byte
one_byte : (t : Text) (n : ℕ) → length t ≡ 1 → first_byte t - 48 ≡ n → 1 ≤ n → is_byte (48 + n) t ≡ true
unfolding is_byte first_byte
one_byte [] n l e h = absurd (omega arith)
one_byte (x ∷ []) n l e h = eq-eqb x (48 + n) (omega arith)
one_byte (x ∷ y ∷ t) n l e h = absurd (omega arith)

byte_size : (b : ℕ) (t : Text) → is_byte b t ≡ true → length t ≡ 1
unfolding is_byte
byte_size b [] e = never e
byte_size b (x ∷ []) e = refl
byte_size b (x ∷ y ∷ t) e = never e

pub among_size : (bs : List ℕ) (t : Text) → among bs t ≡ true → length t ≡ 1
unfolding among
among_size [] t e = never e
among_size (b ∷ bs) t e = either (is_byte b t) (λ p. byte_size b t p) (λ p. among_size bs t (rw p at e))

kind_byte : (t : Text) (n : ℕ) → admits (kind_of time_codes_file 5) t ≡ true → first_byte t - 48 ≡ n → 1 ≤ n → is_byte (48 + n) t ≡ true
unfolding kind_of kinds caskody admits first_byte
kind_byte [] n a e h = absurd (omega arith)
kind_byte (x ∷ t) n a e h =
    let z : eqb (suc (length t)) 0 ≡ false = ne_eqb (suc (length t)) 0 (λ y. omega arith) in
    one_byte (x ∷ t) n (among_size (49 ∷ 50 ∷ 51 ∷ 52 ∷ 53 ∷ 54 ∷ 55 ∷ 56 ∷ []) (x ∷ t) (rw z at a)) e h

no_byte : (t : Text) → length t ≡ 0 → first_byte t - 48 ≡ 0
unfolding first_byte
no_byte [] z = refl
no_byte (x ∷ t) z = absurd (omega arith)

-- the type of a record of kinds, from 1 on, is one digit
pub type_byte : (r : Fields) (n : ℕ) → first_unkind time_codes_file 1 r ≡ 0 → type_of r ≡ n → 1 ≤ n → is_byte (48 + n) (code_type r) ≡ true
unfolding type_of
type_byte r n k e h =
    either (leb 5 (length r))
    (λ p. kind_byte (code_type r) n (kind_at time_codes_file r k 5 (omega arith) (leb-true 5 (length r) p)) e h)
    (λ p.
    let z : code_type r ≡ [] = get_or-eq_default r [] (omega (arith, leb-false 5 (length r) p)) in
    absurd (omega (arith, no_byte (code_type r) (ap (λ (t : Text). length t) z))))

-- types 2 and 3 have a from-date and no to-date
dates_one : (type from to : Text) → dates_rule type from to ≡ true → among (50 ∷ 51 ∷ []) type ≡ true → both (given from) (is_empty to) ≡ true
unfolding dates_rule
dates_one type from to e h =
    go (asks (among (49 ∷ 52 ∷ []) type) (given from)) (among (50 ∷ 51 ∷ []) type) (both (given from) (is_empty to))
    (both (asks (among (53 ∷ 54 ∷ []) type) (both (is_empty from) (is_empty to))) (asks (among (55 ∷ 56 ∷ []) type) (both (given from) (given to))))
    e h
  where
    go : (x y z w : Bool) → both x (both (asks y z) w) ≡ true → y ≡ true → z ≡ true
    go x true z w f g = both_left z w (both_right x (both z w) f)
    go x false z w f g = never g

one_date : (d : ℕ) (r : Fields) → meets time_codes_file r ≡ true → among (50 ∷ 51 ∷ []) (code_type r) ≡ true
    → holds_day d r ≡ eqb (day_of_text (code_from r)) d
unfolding meets time_code_rule holds_day period_holds
one_date d r e h =
    let c = closes (code_from r) (code_to r) in
    let m = mark_rule r in
    let q = dates_rule (code_type r) (code_from r) (code_to r) in
    let f = dates_one (code_type r) (code_from r) (code_to r) (both_right m q (both_right c (both m q) e)) h in
    rw (both_left (given (code_from r)) (is_empty (code_to r)) f, both_right (given (code_from r)) (is_empty (code_to r)) f)

-- a type 2 or type 3 record that is of its kinds and meets its rules holds just its date
pub holds_one : (d : ℕ) (r : Fields) → first_unkind time_codes_file 1 r ≡ 0 → meets time_codes_file r ≡ true → (type_of r ≡ 2) ⊎ (type_of r ≡ 3)
    → holds_day d r ≡ eqb (day_of_text (code_from r)) d
unfolding among
holds_one d r k e (inl t) = one_date d r e (one_left (is_byte 50 (code_type r)) _ (type_byte r 2 k t (omega arith)))
holds_one d r k e (inr t) =
    one_date d r e
    (one_right (is_byte 50 (code_type r)) _ (one_left (is_byte 51 (code_type r)) _ (type_byte r 3 k t (omega arith))))

-- TYPE 4.
-- one of these, or of those beside it
some_with : (test : Fields → Bool) (a : List Fields) (r : Fields) (b : List Fields) → some test (a ++ (r ∷ b)) ≡ one_of (test r) (some test (a ++ b))
unfolding some
some_with test [] r b = refl
some_with test (x ∷ a) r b = ap (λ (t : Bool). one_of (test x) t) (some_with test a r b) ∙ swap (test x) (test r) (some test (a ++ b))
  where
    swap : (x y z : Bool) → one_of x (one_of y z) ≡ one_of y (one_of x z)
    swap true true z = refl
    swap true false z = refl
    swap false y z = refl

module _ (a : List Fields) (r : Fields) (b : List Fields) (four : type_of r ≡ 4) where
  has_other : (t : ℕ) → eqb 4 t ≡ false → has_type t (a ++ (r ∷ b)) ≡ has_type t (a ++ b)
  unfolding has_type
  has_other t h = some_with (λ q. eqb (type_of q) t) a r b ∙ rw (four, h)

  holds_other : (t d : ℕ) → eqb 4 t ≡ false → holds t d (a ++ (r ∷ b)) ≡ holds t d (a ++ b)
  unfolding holds
  holds_other t d h = some_with (λ q. both (eqb (type_of q) t) (holds_day d q)) a r b ∙ rw (four, h)

  holds_four : (d : ℕ) → holds 4 d (a ++ (r ∷ b)) ≡ one_of (holds_day d r) (holds 4 d (a ++ b))
  unfolding holds
  holds_four d = some_with (λ q. both (eqb (type_of q) 4) (holds_day d q)) a r b ∙ rw four

  all_other : (signs : List ℕ) (d : ℕ) (holidays : List ℕ) → all_allow signs (a ++ (r ∷ b)) d holidays ≡ all_allow signs (a ++ b) d holidays
  unfolding all_allow weeks_allow week_allows week_allows_in
  all_other signs d holidays =
      rw (has_other 1 refl, holds_other 1 d refl, has_other 5 refl, has_other 6 refl, has_other 7 refl, holds_other 7 d refl, has_other 8 refl, holds_other 8 d refl)

  -- a type 4 period, added anywhere, takes away just its own days; where there is type 3 it takes none
  pub adds_four : (signs : List ℕ) (d : ℕ) (holidays : List ℕ)
      → codes_allow signs (a ++ (r ∷ b)) d holidays
      ≡ pick (has_type 3 (a ++ b)) (holds 3 d (a ++ b)) (both (not (holds_day d r)) (codes_allow signs (a ++ b) d holidays))
  unfolding codes_allow
  adds_four signs d holidays =
      rw (has_other 3 refl, holds_other 3 d refl, holds_four d, holds_other 2 d refl, all_other signs d holidays)
      (go (has_type 3 (a ++ b)) (holds 3 d (a ++ b)) (holds_day d r) (holds 4 d (a ++ b)) (one_of (holds 2 d (a ++ b)) (all_allow signs (a ++ b) d holidays)))
    where
      go : (t h x y z : Bool) → pick t h (both (not (one_of x y)) z) ≡ pick t h (both (not x) (pick t h (both (not y) z)))
      go true h x y z = refl
      go false h true y z = refl
      go false h false y z = refl

  -- so adding one only takes days away
  pub four_takes : (signs : List ℕ) (d : ℕ) (holidays : List ℕ) → codes_allow signs (a ++ (r ∷ b)) d holidays ≡ true
      → codes_allow signs (a ++ b) d holidays ≡ true
  four_takes signs d holidays e =
      either (has_type 3 (a ++ b))
      (λ p. three_alone signs (a ++ b) d holidays p ∙ (rw p at (sym (adds_four signs d holidays) ∙ e)))
      (λ p. both_right (not (holds_day d r)) (codes_allow signs (a ++ b) d holidays) (rw p at (sym (adds_four signs d holidays) ∙ e)))

-- TWO MARKS.
-- a test holds for one of these exactly if it holds at some place
some_at : (test : Fields → Bool) (rs : List Fields) → some test rs ≡ true → (k : ℕ) × (k < length rs) × (test (get_or rs k []) ≡ true)
unfolding some
some_at test [] e = never e
some_at test (r ∷ rs) e =
    either (test r)
    (λ p. (0, omega arith, p))
    (λ p. let h = some_at test rs (rw p at e) in (suc h.0, omega (arith, h.1), h.2))

at_some : (test : Fields → Bool) (rs : List Fields) (k : ℕ) → k < length rs → test (get_or rs k []) ≡ true → some test rs ≡ true
unfolding some
at_some test [] k h e = absurd (omega arith)
at_some test (r ∷ rs) zero h e = one_left (test r) (some test rs) e
at_some test (r ∷ rs) (suc k) h e = one_right (test r) (some test rs) (at_some test rs k (omega arith) e)

-- a type is there exactly if the record at some place has it
pub type_at : (t : ℕ) (codes : List Fields) → has_type t codes ≡ true → (k : ℕ) × (k < length codes) × (type_of (get_or codes k []) ≡ t)
unfolding has_type
type_at t codes e =
    let h = some_at (λ r. eqb (type_of r) t) codes e in
    (h.0, h.1, eqb-true (type_of (get_or codes h.0 [])) t h.2)

pub at_type : (t : ℕ) (codes : List Fields) (k : ℕ) → k < length codes → type_of (get_or codes k []) ≡ t → has_type t codes ≡ true
unfolding has_type
at_type t codes k h e = at_some (λ r. eqb (type_of r) t) codes k h (eq-eqb (type_of (get_or codes k [])) t e)

-- two records, at places i and j, that both have a type and bear different marks
pub record DifferAt (codes : List Fields) (i j : ℕ) : Type 0 where
  pub one_in : i < length codes
  pub other_in : j < length codes
  pub one_typed : type_of (get_or codes i []) ≡ 0 → ⊥
  pub other_typed : type_of (get_or codes j []) ≡ 0 → ⊥
  pub differ : mark (get_or codes i []) ≡ mark (get_or codes j []) → ⊥

-- one that bears another mark than m
other_at : (m : Text) (codes : List Fields) → other_mark m codes ≡ true
    → (k : ℕ) × (k < length codes) × (type_of (get_or codes k []) ≡ 0 → ⊥) × (mark (get_or codes k []) ≡ m → ⊥)
unfolding other_mark
other_at m codes e =
    let h = some_at (λ r. both (not (eqb (type_of r) 0)) (not (same (mark r) m))) codes e in
    let r = get_or codes h.0 [] in
    let x = not (eqb (type_of r) 0) in
    let y = not (same (mark r) m) in (
      h.0,
      h.1,
      eqb-false (type_of r) 0 (not-true (eqb (type_of r) 0) (both_left x y h.2)),
      λ z. clash (equal_same (mark r) m z) (not-true (same (mark r) m) (both_right x y h.2)),
    )

at_other : (m : Text) (codes : List Fields) (k : ℕ) → k < length codes → (type_of (get_or codes k []) ≡ 0 → ⊥) → (mark (get_or codes k []) ≡ m → ⊥)
    → other_mark m codes ≡ true
unfolding other_mark
at_other m codes k h t n =
    let r = get_or codes k [] in
    let s : same (mark r) m ≡ false = either (same (mark r) m) (λ p. absurd (n (same_equal (mark r) m p))) (λ p. p) in
    at_some (λ q. both (not (eqb (type_of q) 0)) (not (same (mark q) m))) codes k h (rw (ne_eqb (type_of r) 0 t, s))

-- two marks: there are two records with a type that bear different ones
pub two_marks_at : (codes : List Fields) → two_marks codes ≡ true → (i : ℕ) × (j : ℕ) × DifferAt codes i j
unfolding two_marks
two_marks_at [] e = never e
two_marks_at (r ∷ codes) e =
    either (eqb (type_of r) 0)
    (λ p.
    let h = two_marks_at codes (rw p at e) in
    let d = h.2 in (
      suc h.0,
      suc h.1,
      record {
        one_in = omega (arith, d.one_in);
        other_in = omega (arith, d.other_in);
        one_typed = d.one_typed;
        other_typed = d.other_typed;
        differ = d.differ;
      },
    ))
    (λ p.
    let h = other_at (mark r) codes (rw p at e) in (
      0,
      suc h.0,
      record { one_in = omega arith; other_in = omega (arith, h.1); one_typed = eqb-false (type_of r) 0 p; other_typed = h.2; differ = λ z. h.3 (sym z) },
    ))

-- behind a record with a type, one with another mark than its own
later_other : (r : Fields) (codes : List Fields) (k : ℕ) → k < length (r ∷ codes) → (type_of (get_or (r ∷ codes) k []) ≡ 0 → ⊥)
    → (mark (get_or (r ∷ codes) k []) ≡ mark r → ⊥) → other_mark (mark r) codes ≡ true
later_other r codes zero h t n = absurd (n refl)
later_other r codes (suc k) h t n = at_other (mark r) codes k (omega arith) t n

-- and where there are two such records, the test says so
pub at_two_marks : (codes : List Fields) (i j : ℕ) → DifferAt codes i j → two_marks codes ≡ true
unfolding two_marks
at_two_marks [] i j d = absurd (omega (arith, d.one_in))
at_two_marks (r ∷ codes) i j d =
    either (eqb (type_of r) 0)
    (λ p. rw p (later i j (eqb-true (type_of r) 0 p) d (λ m n c. at_two_marks codes m n c)))
    (λ p.
    rw p
    (either (same (mark (get_or (r ∷ codes) i [])) (mark r))
    (λ q.
    let z : mark (get_or (r ∷ codes) i []) ≡ mark r = same_equal (mark (get_or (r ∷ codes) i [])) (mark r) q in
    later_other r codes j d.other_in d.other_typed (λ y. d.differ (z ∙ sym y)))
    (λ q.
    later_other r codes i d.one_in d.one_typed
    (λ z. clash (equal_same (mark (get_or (r ∷ codes) i [])) (mark r) z) q))))
  where
    later : (i j : ℕ) → type_of r ≡ 0 → DifferAt (r ∷ codes) i j → ((m n : ℕ) → DifferAt codes m n → two_marks codes ≡ true) → two_marks codes ≡ true
    later zero j z d f = absurd (d.one_typed z)
    later (suc i) zero z d f = absurd (d.other_typed z)
    later (suc i) (suc j) z d f =
        f i j
        (record {
          one_in = omega (arith, d.one_in);
          other_in = omega (arith, d.other_in);
          one_typed = d.one_typed;
          other_typed = d.other_typed;
          differ = d.differ;
        })
