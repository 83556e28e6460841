-- The two equations of the digits, and what pins them: each is a digit, their value is the number, the first is no zero where the number
-- is none, and a number of a `u64` has 20 at most.
use mathlib.Core.Path.{◌≡◌, refl, sym, ap, ◌∙◌}
use mathlib.Core.Bool.{Bool, true, false}
use mathlib.Core.List.{List, [], ◌∷◌, ◌++◌}
use Prim.Native.Nat.{ℕ, zero, suc, ◌+◌, ◌*◌, ◌-◌, ◌/◌, ◌%◌, ◌≤◌, ◌<◌}
use native.Mathlib.Omega.{arith}
use borrow.Author.Tests.{lt-ltb, le-ltb, le-leb, ltb-true, ltb-false}
use lib.Dec.{ltb}
use lib.ListN.{length, get_or, drop, length-append, get_or-append}
use Rattle.laws.specs.Tests.{pick, either, both_true, both_left, both_right}
use Rattle.laws.specs.Settled.{OneToOne, told_back}
use Rattle.field.specs.Values.{is_digit, all_digits, value, value_from}
use Rattle.decimal.specs.Digits.{digits_by, digits_of}

-- any number of steps above n does
digits_any : (f g n : ℕ) → n < f → n < g → digits_by f n ≡ digits_by g n
unfolding digits_by
digits_any zero g n p q = absurd (omega arith)
digits_any (suc f) zero n p q = absurd (omega arith)
digits_any (suc f) (suc g) n p q = go (ltb n 10) refl (digits_any f g (n / 10))
  where
    go : (t : Bool) → ltb n 10 ≡ t → (n / 10 < f → n / 10 < g → digits_by f (n / 10) ≡ digits_by g (n / 10)) → pick (ltb n 10) ((48 + n) ∷ []) (digits_by f (n / 10) ++ ((48 + n % 10) ∷ [])) ≡ pick (ltb n 10) ((48 + n) ∷ []) (digits_by g (n / 10) ++ ((48 + n % 10) ∷ []))
    go true e h = rw e
    go false e h = rw (e, h (omega (arith, ltb-false n 10 e)) (omega (arith, ltb-false n 10 e)))

-- a number below ten is one digit
pub digits_small : (n : ℕ) → n < 10 → digits_of n ≡ (48 + n) ∷ []
unfolding digits_of digits_by
digits_small n h = rw (lt-ltb _ _ h)

-- another is the digits of its tenth and one more
pub digits_big : (n : ℕ) → 10 ≤ n → digits_of n ≡ digits_of (n / 10) ++ ((48 + n % 10) ∷ [])
unfolding digits_of digits_by
digits_big n h = rw (le-ltb _ _ h, digits_any n (suc (n / 10)) (n / 10) (omega arith) (omega arith))

pub length_small : (n : ℕ) → n < 10 → length (digits_of n) ≡ 1
length_small n h = ap length (digits_small n h)

pub length_big : (n : ℕ) → 10 ≤ n → length (digits_of n) ≡ length (digits_of (n / 10)) + 1
length_big n h = ap length (digits_big n h) ∙ length-append (digits_of (n / 10)) ((48 + n % 10) ∷ [])

-- a law of the digits: at a number below ten, and at another if at its tenth
by_tenths : (P : ℕ → Type 0) → ((n : ℕ) → n < 10 → P n) → ((n : ℕ) → 10 ≤ n → P (n / 10) → P n) → (n : ℕ) → P n
by_tenths P small big n = go (suc n) n (omega arith)
  where
    go : (f n : ℕ) → n < f → P n
    go zero n h = absurd (omega arith)
    go (suc f) n h =
        either (ltb n 10)
        (λ e. small n (ltb-true n 10 e))
        (λ e. let l : 10 ≤ n = ltb-false n 10 e in big n l (go f (n / 10) (omega arith)))

-- a digit behind digits
digits_snoc : (t : List ℕ) (b : ℕ) → all_digits t ≡ true → 48 ≤ b → b ≤ 57 → all_digits (t ++ (b ∷ [])) ≡ true
unfolding all_digits is_digit
digits_snoc [] b e l h = rw (le-leb _ _ l, le-leb _ _ h)
digits_snoc (x ∷ t) b e l h =
    both_true (is_digit x) (all_digits (t ++ (b ∷ []))) (both_left (is_digit x) (all_digits t) e) (digits_snoc t b (both_right (is_digit x) (all_digits t) e) l h)

digits_none : all_digits [] ≡ true
unfolding all_digits
digits_none = refl

-- each byte is a digit
pub digits_all : (n : ℕ) → all_digits (digits_of n) ≡ true
digits_all =
    by_tenths (λ n. all_digits (digits_of n) ≡ true)
    (λ n h. rw (digits_small n h) (digits_snoc [] (48 + n) digits_none (omega arith) (omega arith)))
    (λ n h e. rw (digits_big n h) (digits_snoc (digits_of (n / 10)) (48 + n % 10) e (omega arith) (omega arith)))

-- one digit more is worth ten times the others and itself
value_snoc : (t : List ℕ) (v b : ℕ) → value_from v (t ++ (b ∷ [])) ≡ value_from v t * 10 + (b - 48)
unfolding value_from
value_snoc [] v b = refl
value_snoc (x ∷ t) v b = value_snoc t (v * 10 + (x - 48)) b

value_single : (n : ℕ) → value ((48 + n) ∷ []) ≡ n
unfolding value_from
value_single n = omega arith

-- the value of the digits is the number
pub value_digits : (n : ℕ) → value (digits_of n) ≡ n
value_digits =
    by_tenths (λ n. value (digits_of n) ≡ n)
    (λ n h. rw (digits_small n h) (value_single n))
    (λ n h e. rw (digits_big n h) (value_snoc (digits_of (n / 10)) 0 (48 + n % 10) ∙ rw e (omega arith)))

-- so different numbers have different digits
pub digits_one : OneToOne digits_of
digits_one = told_back digits_of (λ t. value t) value_digits

-- there is one
pub some_digit : (n : ℕ) → 1 ≤ length (digits_of n)
some_digit =
    by_tenths (λ n. 1 ≤ length (digits_of n))
    (λ n h. omega (arith, length_small n h))
    (λ n h e. omega (arith, length_big n h))

-- the first digit of a number that isn't 0 is no zero
first_digit : (n : ℕ) → 1 ≤ n → 49 ≤ get_or (digits_of n) 0 0
first_digit =
    by_tenths (λ n. 1 ≤ n → 49 ≤ get_or (digits_of n) 0 0)
    (λ n h l. rw (digits_small n h) (omega arith))
    (λ n h e l. rw (digits_big n h, get_or-append (digits_of (n / 10)) ((48 + n % 10) ∷ []) 0 0 (some_digit (n / 10))) (e (omega arith)))

-- no leading zero: digits that begin with one are those of 0, and it is the only one
pub no_leading_zero : (n : ℕ) (t : List ℕ) → digits_of n ≡ 48 ∷ t → (n ≡ 0) × (t ≡ [])
no_leading_zero n t e =
    let f : get_or (digits_of n) 0 0 ≡ 48 = rw e in
    let z : n ≡ 0 = either (ltb 0 n) (λ p. absurd (omega (arith, first_digit n (ltb-true 0 n p)))) (λ p. omega (arith, ltb-false 0 n p)) in
    let s : digits_of n ≡ (48 + n) ∷ [] = digits_small n (omega arith) in
    (z, ap (λ (l : List ℕ). drop 1 l) (sym e ∙ s))

-- 10 times 10, k times
ten_to : ℕ → ℕ
ten_to zero = 1
ten_to (suc k) = 10 * ten_to k

digits_under : (k n : ℕ) → n < ten_to (suc k) → length (digits_of n) ≤ suc k
unfolding ten_to
digits_under zero n h = omega (arith, length_small n (omega arith))
digits_under (suc k) n h =
    either (ltb n 10)
    (λ e. omega (arith, length_small n (ltb-true n 10 e)))
    (λ e. omega (arith, length_big n (ltb-false n 10 e), digits_under k (n / 10) (omega arith)))

-- a `u64` has 20 digits at most
pub digits_most : (n : ℕ) → n < 18446744073709551616 → length (digits_of n) ≤ 20
unfolding ten_to
digits_most n h = digits_under 19 n (omega arith)

-- a worked example: computed
example : digits_of 18446744073709551615 ≡ 49 ∷ 56 ∷ 52 ∷ 52 ∷ 54 ∷ 55 ∷ 52 ∷ 52 ∷ 48 ∷ 55 ∷ 51 ∷ 55 ∷ 48 ∷ 57 ∷ 53 ∷ 53 ∷ 49 ∷ 54 ∷ 49 ∷ 53 ∷ []
unfolding digits_of digits_by
example = refl
