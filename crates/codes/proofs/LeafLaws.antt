-- Laws of the leaves: places of 0 and 1 as tests, and what a time code's type and mark are by their kinds.
use mathlib.Core.Path.{◌≡◌, refl, sym}
use mathlib.Core.Bool.{Bool, true, false, not}
use mathlib.Core.List.{List, [], ◌∷◌}
use Prim.Native.Nat.{ℕ, ◌+◌, ◌-◌, ◌≤◌}
use native.Mathlib.Omega.{arith}
use lib.Dec.{eqb, leb, ltb}
use lib.ListN.{length, get_or}
use borrow.Author.Tests.{eqb-true, ne_eqb, leb-true, lt-ltb}
use Rattle.laws.specs.Tests.{pick, both, one_of, either, never, both_left, both_right, bit}
use Rattle.file.specs.Format.{Text, Fields}
use Rattle.dates.specs.Dates.{within}
use Rattle.periods.specs.Periods.{parity_fits}
use Rattle.field.specs.Kinds.{admits}
use Rattle.field.specs.Names.{time_codes_file, mark, code_type, code_from, code_to}
use Rattle.field.specs.Rules.{asks, meets, time_code_rule, mark_rule, dates_rule, closes, is_time_mark, is_note_mark}
use Rattle.field.specs.Values.{given, is_byte, among, is_digits, value}
use Rattle.field.specs.declared.Kind.{Kind}
use Rattle.field.proofs.ValueLaws.{Digits, digits_are}
use Rattle.link.specs.Signs.{first_byte}
use Rattle.trip.specs.Days.{type_of, has_type, holds, two_weeks, beside_three, week_allows}
use Rattle.codes.specs.Seen.{Seen, Held}

-- TESTS ONE AFTER ANOTHER
-- of three, the first two hold or don't
pub both_first : (a b c : Bool) → both a (both b c) ≡ both (both a b) c
both_first true b c = refl
both_first false b c = refl

-- A PLACE OF 0 AND 1
-- is 0 where its test fails, and is no 0 where it holds
bit_off : {n : ℕ} (b : Bool) → n ≡ bit b → n ≡ 0 → b ≡ false
bit_off true e z = absurd (omega arith)
bit_off false e z = refl

bit_on : {n : ℕ} (b : Bool) → n ≡ bit b → (n ≡ 0 → ⊥) → b ≡ true
bit_on true e z = refl
bit_on false e z = absurd (z e)

-- and is 1 where it holds
bit_not_one : {n : ℕ} (b : Bool) → n ≡ bit b → (n ≡ 1 → ⊥) → b ≡ false
bit_not_one true e z = absurd (z e)
bit_not_one false e z = refl

bit_one : {n : ℕ} (b : Bool) → n ≡ bit b → n ≡ 1 → b ≡ true
bit_one true e z = refl
bit_one false e z = absurd (omega arith)

is_one : (b : Bool) → eqb (bit b) 1 ≡ b
is_one true = refl
is_one false = refl

-- more than one of four
two_of_four : (a b c d : Bool) → ltb 1 (bit a + bit b + bit c + bit d)
    ≡ one_of (both a (one_of b (one_of c d))) (one_of (both b (one_of c d)) (both c d))
two_of_four true true true true = refl
two_of_four true true true false = refl
two_of_four true true false true = refl
two_of_four true true false false = refl
two_of_four true false true true = refl
two_of_four true false true false = refl
two_of_four true false false true = refl
two_of_four true false false false = refl
two_of_four false true true true = refl
two_of_four false true true false = refl
two_of_four false true false true = refl
two_of_four false true false false = refl
two_of_four false false true true = refl
two_of_four false false true false = refl
two_of_four false false false true = refl
two_of_four false false false false = refl

-- one of some, one after another
some_bit : (a : Bool) → ltb 0 (bit a) ≡ a
some_bit true = refl
some_bit false = refl

some_more : (n : ℕ) (b : Bool) → ltb 0 (n + bit b) ≡ one_of (ltb 0 n) b
some_more n true = either (ltb 0 n) (λ e. rw e (lt-ltb 0 (n + 1) (omega arith))) (λ e. rw e (lt-ltb 0 (n + 1) (omega arith)))
some_more n false = let z : n + 0 ≡ n = omega arith in rw z (go (ltb 0 n))
  where
    go : (t : Bool) → t ≡ one_of t false
    go true = refl
    go false = refl

some_of_seven : (a b c d e f g : Bool) → ltb 0 (bit a + bit b + bit c + bit d + bit e + bit f + bit g)
    ≡ one_of a (one_of b (one_of c (one_of d (one_of e (one_of f g)))))
some_of_seven a b c d e f g =
    rw
    (some_more (bit a + bit b + bit c + bit d + bit e + bit f) g, some_more (bit a + bit b + bit c + bit d + bit e) f, some_more (bit a + bit b + bit c + bit d) e, some_more (bit a + bit b + bit c) d, some_more (bit a + bit b) c, some_more (bit a) b, some_bit a)
    (go a b c d e f g)
  where
    go : (a b c d e f g : Bool) → one_of (one_of (one_of (one_of (one_of (one_of a b) c) d) e) f) g ≡ one_of a (one_of b (one_of c (one_of d (one_of e (one_of f g)))))
    go true b c d e f g = refl
    go false true c d e f g = refl
    go false false true d e f g = refl
    go false false false true e f g = refl
    go false false false false true f g = refl
    go false false false false false f g = refl

-- what a type asks, by its two places: a period besides, or the week alone
asks_both : (a p h : Bool) → pick (eqb (bit a) 0) true (both p (not (eqb (bit h) 0))) ≡ asks a (both p h)
asks_both true true true = refl
asks_both true true false = refl
asks_both true false h = refl
asks_both false p h = refl

asks_alone : (a p : Bool) → pick (eqb (bit a) 0) true (both p true) ≡ asks a p
asks_alone true true = refl
asks_alone true false = refl
asks_alone false p = refl

-- THE LIST OF TYPES says what a definition asks of the time codes
module _ {codes : List Fields} {seen : List ℕ} (s : Seen codes seen) where
  has : (t : ℕ) → both (leb 1 t) (leb t 8) ≡ true → get_or seen t 0 ≡ bit (has_type t codes)
  has t e = s.types t (leb-true 1 t (both_left (leb 1 t) (leb t 8) e)) (leb-true t 8 (both_right (leb 1 t) (leb t 8) e))

  pub lacks_type : (t : ℕ) → both (leb 1 t) (leb t 8) ≡ true → get_or seen t 0 ≡ 0 → has_type t codes ≡ false
  lacks_type t e z = bit_off (has_type t codes) (has t e) z

  pub has_type_lem : (t : ℕ) → both (leb 1 t) (leb t 8) ≡ true → (get_or seen t 0 ≡ 0 → ⊥) → has_type t codes ≡ true
  has_type_lem t e z = bit_on (has_type t codes) (has t e) z

  pub has_one : (t : ℕ) → both (leb 1 t) (leb t 8) ≡ true → get_or seen t 0 ≡ 1 → has_type t codes ≡ true
  has_one t e z = bit_one (has_type t codes) (has t e) z

  pub has_no_one : (t : ℕ) → both (leb 1 t) (leb t 8) ≡ true → (get_or seen t 0 ≡ 1 → ⊥) → has_type t codes ≡ false
  has_no_one t e z = bit_not_one (has_type t codes) (has t e) z

  pub two_weeks_lem : ltb 1 (get_or seen 5 0 + get_or seen 6 0 + get_or seen 7 0 + get_or seen 8 0) ≡ two_weeks codes
  unfolding two_weeks
  two_weeks_lem =
      rw (has 5 refl, has 6 refl, has 7 refl, has 8 refl)
      (two_of_four (has_type 5 codes) (has_type 6 codes) (has_type 7 codes) (has_type 8 codes))

  pub late_weeks : ltb 0 (get_or seen 7 0 + get_or seen 8 0) ≡ one_of (has_type 7 codes) (has_type 8 codes)
  late_weeks = rw (has 7 refl, has 8 refl, some_more, some_bit)

  pub beside_three_lem : ltb 0 (get_or seen 1 0 + get_or seen 2 0 + get_or seen 4 0 + get_or seen 5 0 + get_or seen 6 0 + get_or seen 7 0 + get_or seen 8 0) ≡ beside_three codes
  unfolding beside_three
  beside_three_lem =
      rw (has 1 refl, has 2 refl, has 4 refl, has 5 refl, has 6 refl, has 7 refl, has 8 refl)
      (some_of_seven (has_type 1 codes) (has_type 2 codes) (has_type 4 codes) (has_type 5 codes) (has_type 6 codes) (has_type 7 codes) (has_type 8 codes))

  pub week_alone : (t d : ℕ) → both (leb 1 t) (leb t 8) ≡ true → pick (eqb (get_or seen t 0) 0) true (both (parity_fits t d) true) ≡ week_allows t d codes
  unfolding week_allows
  week_alone t d e = rw (has t e) (asks_alone (has_type t codes) (parity_fits t d))

  module _ {d : ℕ} {held : List ℕ} (h : Held d codes held) where
    holding : (t : ℕ) → both (leb 1 t) (leb t 8) ≡ true → get_or held t 0 ≡ bit (holds t d codes)
    holding t e = h.types t (leb-true 1 t (both_left (leb 1 t) (leb t 8) e)) (leb-true t 8 (both_right (leb 1 t) (leb t 8) e))

    pub holds_one : (t : ℕ) → both (leb 1 t) (leb t 8) ≡ true → eqb (get_or held t 0) 1 ≡ holds t d codes
    holds_one t e = rw (holding t e) (is_one (holds t d codes))

    pub asks_period : (t : ℕ) → both (leb 1 t) (leb t 8) ≡ true
        → pick (eqb (get_or seen t 0) 0) true (both (parity_fits t d) (not (eqb (get_or held t 0) 0))) ≡ asks (has_type t codes) (both (parity_fits t d) (holds t d codes))
    asks_period t e = rw (has t e, holding t e) (asks_both (has_type t codes) (parity_fits t d) (holds t d codes))

-- TEXTS
pub first_byte_lem : (t : Text) → get_or t 0 0 ≡ first_byte t
unfolding first_byte
first_byte_lem [] = refl
first_byte_lem (b ∷ t) = refl

no_byte : (t : Text) → length t ≡ 0 → first_byte t ≡ 0
unfolding first_byte
no_byte [] e = refl
no_byte (b ∷ t) e = absurd (omega arith)

-- one byte of a set that goes from a to b
spans : ℕ → ℕ → List ℕ → Bool
spans a b [] = true
spans a b (x ∷ xs) = both (within a x b) (spans a b xs)

byte_is : (x : ℕ) (t : Text) → is_byte x t ≡ true → (length t ≡ 1) × (get_or t 0 0 ≡ x)
unfolding is_byte
byte_is x [] e = never e
byte_is x (y ∷ []) e = (refl, eqb-true y x e)
byte_is x (y ∷ z ∷ t) e = never e

among_spans : (a b : ℕ) (set : List ℕ) (t : Text) → spans a b set ≡ true → among set t ≡ true → (a ≤ get_or t 0 0) × (get_or t 0 0 ≤ b)
unfolding among spans
among_spans a b [] t s e = never e
among_spans a b (x ∷ xs) t s e =
    either (is_byte x t)
    (λ p.
    let w = both_left (within a x b) (spans a b xs) s in
    let low = leb-true a x (both_left (leb a x) (leb x b) w) in
    let high = leb-true x b (both_right (leb a x) (leb x b) w) in
    let y = (byte_is x t p).1 in
    (omega arith, omega arith))
    (λ p. among_spans a b xs t (both_right (within a x b) (spans a b xs) s) (rw p at e))

-- a time code's type that is given is `1` to `8`
pub type_byte : (t : Text) → admits Kind.CodeType t ≡ true → (length t ≡ 0 → ⊥) → (49 ≤ get_or t 0 0) × (get_or t 0 0 ≤ 56)
unfolding admits spans
type_byte t e h = among_spans 49 56 (49 ∷ 50 ∷ 51 ∷ 52 ∷ 53 ∷ 54 ∷ 55 ∷ 56 ∷ []) t refl (rw (ne_eqb (length t) 0 h) at e)

-- its type where none is given
pub no_type : (t : Text) → length t ≡ 0 → 0 ≡ first_byte t - 48
no_type t e = rw (no_byte t e)

-- a time code that has a type is marked by two digits
typed : (r : Fields) → (type_of r ≡ 0 → ⊥) → given (code_type r) ≡ true
unfolding type_of
typed r h = rw (ne_eqb (length (code_type r)) 0 (λ e. h (sym (no_type (code_type r) e))))

pub typed_mark : (r : Fields) → meets time_codes_file r ≡ true → (type_of r ≡ 0 → ⊥) → Digits 2 2 (mark r)
unfolding meets time_code_rule mark_rule is_time_mark
typed_mark r e h =
    let m = both_left (pick (given (code_type r)) (is_time_mark (mark r)) (is_note_mark (mark r))) (dates_rule (code_type r) (code_from r) (code_to r))
    (both_right (closes (code_from r) (code_to r)) _ e) in
    let k : is_time_mark (mark r) ≡ true = rw (typed r h) at m in
    digits_are 2 2 (mark r) (both_left (is_digits 2 2 (mark r)) (within 10 (value (mark r)) 79) k)
