-- One pass over a trip's time codes: the list that it leaves says which types there are and which hold a day, and the first typed record's
-- mark is enough to see whether two marks differ.
use mathlib.Core.Path.{◌≡◌, refl, sym, ap, ◌∙◌}
use mathlib.Core.Bool.{Bool, true, false}
use mathlib.Core.List.{List, [], ◌∷◌}
use Prim.Native.Nat.{ℕ, zero, suc, ◌+◌, ◌-◌, ◌*◌, ◌≤◌, ◌<◌}
use native.Mathlib.Omega.{arith}
use lib.Dec.{eqb, leb}
use lib.ListN.{length, get_or, set, replicate, length-set, get_or-replicate}
use lib.Seq.{get_or-set_same, get_or-set_other}
use borrow.Author.Tests.{eq-eqb, ne_eqb, eqb-true, eqb-false, leb-true}
use Rattle.laws.specs.Tests.{pick, both, one_of, either, never, clash, both_left, both_right}
use Rattle.dates.specs.Dates.{within}
use Rattle.file.specs.Format.{Text, Fields}
use Rattle.field.specs.Values.{given, is_digit, all_digits, is_digits, value_from, value}
use Rattle.field.specs.Names.{time_codes_file, mark, code_type, code_from, code_to}
use Rattle.field.specs.Rules.{is_time_mark, is_note_mark, mark_rule, closes, dates_rule, time_code_rule, meets}
use Rattle.field.proofs.ValueLaws.{digits_are, digit_bounds}
use Rattle.keys.specs.Keys.{same}
use Rattle.link.specs.Signs.{first_byte}
use Rattle.link.proofs.HasLaws.{same_self, same_equal}
use Rattle.trail.specs.Lists.{some}
use Rattle.trip.specs.Days.{type_of, has_type, holds_day, holds, other_mark, two_marks}
use Rattle.codes.specs.Seen.{Flags, Seen, Held, seen_behind, held_behind, first_mark, differs_from, marks_differ, AllMeet}

-- THE LIST.
-- a place of the list when place i has been set
set_at : (seen : List ℕ) (i t : ℕ) (x : ℕ) (b : Bool) → t < length seen → eqb i t ≡ b → get_or (set seen i x) t 0 ≡ pick b x (get_or seen t 0)
set_at seen i t x true h e = let z : i ≡ t = eqb-true i t e in rw z (get_or-set_same seen t x 0 h)
set_at seen i t x false h e = get_or-set_other seen i t x 0 (λ (z : t ≡ i). eqb-false i t e (sym z))

one_more : (a b : Bool) (n : ℕ) → pick b 1 (pick a 1 n) ≡ pick (one_of a b) 1 n
one_more true true n = refl
one_more true false n = refl
one_more false b n = refl

-- each place of the list says whether there is a record of that type, or else what it said before
pub seen_is : (seen : List ℕ) (codes : List Fields) (t : ℕ) → t < length seen → get_or (seen_behind seen codes) t 0 ≡ pick (has_type t codes) 1 (get_or seen t 0)
unfolding seen_behind has_type some
seen_is seen [] t h = refl
seen_is seen (r ∷ codes) t h =
    let i = type_of r in
    seen_is (set seen i 1) codes t (omega (arith, length-set seen i 1))
    ∙ ap (λ (n : ℕ). pick (has_type t codes) 1 n) (set_at seen i t 1 (eqb i t) h refl)
    ∙ one_more (eqb i t) (has_type t codes) (get_or seen t 0)

-- the same of those that hold day d
pub held_is : (d : ℕ) (held : List ℕ) (codes : List Fields) (t : ℕ) → t < length held
    → get_or (held_behind d held codes) t 0 ≡ pick (holds t d codes) 1 (get_or held t 0)
unfolding held_behind holds some
held_is d held [] t h = refl
held_is d held (r ∷ codes) t h =
    let i = type_of r in
    either (holds_day d r)
    (λ p.
    rw p
    (held_is d (set held i 1) codes t (omega (arith, length-set held i 1))
    ∙ ap (λ (n : ℕ). pick (holds t d codes) 1 n) (set_at held i t 1 (eqb i t) h refl)
    ∙ one_more (eqb i t) (holds t d codes) (get_or held t 0)
    ∙ ap (λ (b : Bool). pick (one_of b (holds t d codes)) 1 (get_or held t 0)) (sym (both_all (eqb i t)))))
    (λ p. rw p (held_is d held codes t h ∙ ap (λ (b : Bool). pick (one_of b (holds t d codes)) 1 (get_or held t 0)) (sym (both_none (eqb i t)))))
  where
    both_all : (a : Bool) → both a true ≡ a
    both_all true = refl
    both_all false = refl

    both_none : (a : Bool) → both a false ≡ false
    both_none true = refl
    both_none false = refl

-- a place that is set to 1 leaves each place 0 or 1
set_low : (l : List ℕ) (i t : ℕ) → ((j : ℕ) → get_or l j 0 ≤ 1) → get_or (set l i 1) t 0 ≤ 1
set_low [] i t h = omega arith
set_low (x ∷ l) zero zero h = omega arith
set_low (x ∷ l) zero (suc t) h = h (suc t)
set_low (x ∷ l) (suc i) zero h = h 0
set_low (x ∷ l) (suc i) (suc t) h = set_low l i t (λ j. h (suc j))

-- flags stay flags when one is set
pub flags_set : (seen : List ℕ) (i : ℕ) → Flags seen → Flags (set seen i 1)
flags_set seen i f = record { size = omega (arith, length-set seen i 1, f.size); low = λ t. set_low seen i t f.low }

-- and through the pass
pub flags_seen : (seen : List ℕ) (codes : List Fields) → Flags seen → Flags (seen_behind seen codes)
unfolding seen_behind
flags_seen seen [] f = f
flags_seen seen (r ∷ codes) f = flags_seen (set seen (type_of r) 1) codes (flags_set seen (type_of r) f)

pub flags_held : (d : ℕ) (held : List ℕ) (codes : List Fields) → Flags held → Flags (held_behind d held codes)
unfolding held_behind
flags_held d held [] f = f
flags_held d held (r ∷ codes) f =
    either (holds_day d r)
    (λ p. rw p (flags_held d (set held (type_of r) 1) codes (flags_set held (type_of r) f)))
    (λ p. rw p (flags_held d held codes f))

-- nine places, each 0, are flags
pub flags_new : Flags (replicate 9 0)
flags_new = record { size = omega arith; low = low 9 }
  where
    low : (n t : ℕ) → get_or (replicate n 0) t 0 ≤ 1
    low zero t = omega arith
    low (suc n) zero = omega arith
    low (suc n) (suc t) = low n t

-- where no type was set, the pass leaves a list that says which types there are
pub seen_from : (seen : List ℕ) (codes : List Fields) → 9 ≤ length seen → ((t : ℕ) → 1 ≤ t → t ≤ 8 → get_or seen t 0 ≡ 0) → Seen codes (seen_behind seen codes)
seen_from seen codes h z =
    record { types = λ t p q. seen_is seen codes t (omega arith) ∙ ap (λ (n : ℕ). pick (has_type t codes) 1 n) (z t p q) }

pub held_from : (d : ℕ) (held : List ℕ) (codes : List Fields) → 9 ≤ length held → ((t : ℕ) → 1 ≤ t → t ≤ 8 → get_or held t 0 ≡ 0)
    → Held d codes (held_behind d held codes)
held_from d held codes h z =
    record { types = λ t p q. held_is d held codes t (omega arith) ∙ ap (λ (n : ℕ). pick (holds t d codes) 1 n) (z t p q) }

-- so from nine places, each 0
pub seen_all : (codes : List Fields) → Seen codes (seen_behind (replicate 9 0) codes)
seen_all codes = seen_from (replicate 9 0) codes (omega arith) (λ t p q. get_or-replicate 9 t 0 0 (omega arith))

pub held_all : (d : ℕ) (codes : List Fields) → Held d codes (held_behind d (replicate 9 0) codes)
held_all d codes = held_from d (replicate 9 0) codes (omega arith) (λ t p q. get_or-replicate 9 t 0 0 (omega arith))

-- THE MARKS.
-- a test that tells whether two numbers are equal is their `eqb`
test_equal : (x y : ℕ) (t : Bool) → (x ≡ y → t ≡ true) → (t ≡ true → x ≡ y) → eqb x y ≡ t
test_equal x y true p q = eq-eqb x y (q refl)
test_equal x y false p q = ne_eqb x y (λ e. never (p e))

-- two digits, one by one
record TwoDigits (t : Text) : Type 0 where
  first : ℕ
  second : ℕ
  text : t ≡ first ∷ second ∷ []
  first_low : 48 ≤ first
  first_high : first ≤ 57
  second_low : 48 ≤ second
  second_high : second ≤ 57

digits_of : (x y : ℕ) → all_digits (x ∷ y ∷ []) ≡ true → TwoDigits (x ∷ y ∷ [])
unfolding all_digits
digits_of x y e =
    let a = digit_bounds x (both_left (is_digit x) (both (is_digit y) true) e) in
    let b = digit_bounds y (both_left (is_digit y) true (both_right (is_digit x) (both (is_digit y) true) e)) in
    record { first = x; second = y; text = refl; first_low = a.0; first_high = a.1; second_low = b.0; second_high = b.1 }

two_digits : (t : Text) → is_time_mark t ≡ true → TwoDigits t
unfolding is_time_mark
two_digits t e = let d = digits_are 2 2 t (both_left (is_digits 2 2 t) (within 10 (value t) 79) e) in go t d.digits d.least d.most
  where
    go : (t : Text) → all_digits t ≡ true → 2 ≤ length t → length t ≤ 2 → TwoDigits t
    go [] a l m = absurd (omega arith)
    go (x ∷ []) a l m = absurd (omega arith)
    go (x ∷ y ∷ []) a l m = digits_of x y a
    go (x ∷ y ∷ z ∷ t) a l m = absurd (omega arith)

-- a record with a type bears a mark of two digits, 10 to 79
pub typed_mark : (r : Fields) → meets time_codes_file r ≡ true → eqb (type_of r) 0 ≡ false → is_time_mark (mark r) ≡ true
unfolding meets time_code_rule mark_rule type_of first_byte
typed_mark r e n =
    let m = pick (given (code_type r)) (is_time_mark (mark r)) (is_note_mark (mark r)) in
    let d = dates_rule (code_type r) (code_from r) (code_to r) in
    go (code_type r) n (both_left m d (both_right (closes (code_from r) (code_to r)) (both m d) e))
  where
    go : (t : Text) → eqb (first_byte t - 48) 0 ≡ false → pick (given t) (is_time_mark (mark r)) (is_note_mark (mark r)) ≡ true → is_time_mark (mark r) ≡ true
    go [] f g = clash refl f
    go (x ∷ t) f g = rw (ne_eqb (suc (length t)) 0 (λ z. omega arith)) at g

-- two digits are worth ten times the first and the second
two_value : (t : Text) (d : TwoDigits t) → value t ≡ (d.first - 48) * 10 + (d.second - 48)
unfolding value_from
two_value t d = rw d.text (omega arith)

one_value : (a b : Text) → TwoDigits a → TwoDigits b → value a ≡ value b → a ≡ b
one_value a b c d e =
    let v : value a ≡ (c.first - 48) * 10 + (c.second - 48) = two_value a c in
    let w : value b ≡ (d.first - 48) * 10 + (d.second - 48) = two_value b d in
    let x : c.first ≡ d.first = omega (arith, v, w, e, c.first_low, c.second_low, c.second_high, d.first_low, d.second_low, d.second_high) in
    let y : c.second ≡ d.second = omega (arith, v, w, e, c.first_low, c.second_low, c.second_high, d.first_low, d.second_low, d.second_high) in
    c.text ∙ (let z : c.first ∷ c.second ∷ [] ≡ d.first ∷ d.second ∷ [] = cc in z) ∙ sym d.text

-- two texts of two digits are the same exactly if their values are
pub same_value : (a b : Text) → is_time_mark a ≡ true → is_time_mark b ≡ true → eqb (value a) (value b) ≡ same a b
same_value a b p q = test_equal (value a) (value b) (same a b) (λ e. rw (one_value a b (two_digits a p) (two_digits b q) e) (same_self b)) (λ e. ap (λ (t : Text). value t) (same_equal a b e))

-- and such a value is not 0
pub mark_not_zero : (t : Text) → is_time_mark t ≡ true → eqb (value t) 0 ≡ false
unfolding is_time_mark
mark_not_zero t e =
    let w = both_right (is_digits 2 2 t) (within 10 (value t) 79) e in
    ne_eqb (value t) 0 (λ z. omega (arith, leb-true 10 (value t) (both_left (leb 10 (value t)) (leb (value t) 79) w)))

-- where the record at each place meets its rules, all do
pub all_meet : (file : ℕ) (rs : List Fields) → ((i : ℕ) → i < length rs → meets file (get_or rs i []) ≡ true) → AllMeet file rs
unfolding AllMeet
all_meet file [] m = tt
all_meet file (r ∷ rs) m = (m 0 (omega arith), all_meet file rs (λ i h. m (suc i) (omega arith)))

-- once two marks differ they do
pub marks_true : (first : ℕ) (codes : List Fields) → marks_differ first true codes ≡ true
unfolding marks_differ
marks_true first [] = refl
marks_true first (r ∷ codes) = marks_true (first_mark first r) codes

-- behind a record with the mark m
marks_after : (m : Text) (codes : List Fields) → is_time_mark m ≡ true → AllMeet time_codes_file codes → marks_differ (value m) false codes ≡ other_mark m codes
unfolding marks_differ other_mark some first_mark differs_from AllMeet
marks_after m [] h a = refl
marks_after m (r ∷ codes) h a =
    let z : eqb (value m) 0 ≡ false = mark_not_zero m h in
    either (eqb (type_of r) 0)
    (λ p. rw (p, z) (marks_after m codes h a.1))
    (λ p.
    let e : eqb (value (mark r)) (value m) ≡ same (mark r) m = same_value (mark r) m (typed_mark r a.0 p) h in
    either (same (mark r) m)
    (λ q. rw (p, z, e, q) (marks_after m codes h a.1))
    (λ q. rw (p, z, e, q) (marks_true (value m) codes)))

-- where the records meet their rules, the values of marks tell whether two of them differ
pub marks_are : (codes : List Fields) → AllMeet time_codes_file codes → marks_differ 0 false codes ≡ two_marks codes
unfolding marks_differ two_marks first_mark differs_from AllMeet
marks_are [] a = refl
marks_are (r ∷ codes) a =
    either (eqb (type_of r) 0)
    (λ p. rw p (marks_are codes a.1))
    (λ p. rw p (marks_after (mark r) codes (typed_mark r a.0 p) a.1))
