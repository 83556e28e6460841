-- Refusal 6 for a Zasspoje record: one with a time has no `|` or `<`.
use mathlib.Core.Path.{◌≡◌, refl}
use mathlib.Core.Bool.{true, false}
use mathlib.Core.List.{[], ◌∷◌}
use mathlib.Core.Logic.{◌⊎◌, inl, inr}
use Prim.Native.Nat.{ℕ}
use native.Mathlib.Omega.{arith}
use lib.ListN.{length}
use borrow.Author.Tests.{eqb-true}
use Rattle.laws.specs.Tests.{both, one_of, either, never, both_left, both_right}
use Rattle.file.specs.Format.{Text, Fields}
use Rattle.field.specs.Values.{is_empty, given, is_byte, among, is_time}
use Rattle.field.specs.Names.{kilometres, arrival, departure}
use Rattle.field.specs.Rules.{times_rule, time_or_bar, alike, trip_stop_rule}
use Rattle.field.proofs.ValueLaws.{byte_other, time_digits}
use Rattle.link.proofs.HasLaws.{one_cases}
use Rattle.trip.specs.Stops.{arrives, departs, timed, passes_in, passes}

-- an empty text isn't one byte, nor is a time; and one that is a byte is
empty_long : (t : Text) → is_empty t ≡ true → length t ≡ 1 → ⊥
empty_long t e z = omega (arith, eqb-true (length t) 0 e)

time_long : (t : Text) → is_time t ≡ true → length t ≡ 1 → ⊥
time_long t e z = omega (arith, (time_digits t e).least)

byte_length : (t : Text) (b : ℕ) → is_byte b t ≡ true → length t ≡ 1
unfolding is_byte
byte_length [] b e = never e
byte_length (x ∷ []) b e = refl
byte_length (x ∷ y ∷ t) b e = never e

-- neither `|` nor `<` stands in texts that aren't one byte
no_pass : (a d : Text) → (length a ≡ 1 → ⊥) → (length d ≡ 1 → ⊥) → passes_in a d ≡ false
unfolding passes_in among
no_pass a d h g = rw (byte_other a 124 h, byte_other a 60 h, byte_other d 124 g, byte_other d 60 g)

module _ (a d : Text) (t : one_of (is_time a) (is_time d) ≡ true) where
  -- where there is a time, the departure isn't one byte with the arrival empty or the same
  never_byte : {P : Type 0} (b : ℕ) → both (is_byte b d) (one_of (is_empty a) (is_byte b a)) ≡ true → P
  never_byte b e =
      go (one_cases (is_time a) (is_time d) t) (one_cases (is_empty a) (is_byte b a) (both_right (is_byte b d) (one_of (is_empty a) (is_byte b a)) e))
    where
      go : {P : Type 0} → (is_time a ≡ true) ⊎ (is_time d ≡ true) → (is_empty a ≡ true) ⊎ (is_byte b a ≡ true) → P
      go (inl p) (inl q) = absurd (omega (arith, (time_digits a p).least, eqb-true (length a) 0 q))
      go (inl p) (inr q) = absurd (time_long a p (byte_length a b q))
      go (inr p) q = absurd (time_long d p (byte_length d b (both_left (is_byte b d) (one_of (is_empty a) (is_byte b a)) e)))

  -- so each is empty or a time
  rule_times : times_rule a d ≡ true → passes_in a d ≡ false
  unfolding times_rule
  rule_times e =
      either (both (is_empty a) (is_empty d))
      (λ p. no_pass a d (empty_long a (both_left (is_empty a) (is_empty d) p)) (empty_long d (both_right (is_empty a) (is_empty d) p)))
      (λ p.
      either (both (is_time a) (is_empty d))
      (λ q. no_pass a d (time_long a (both_left (is_time a) (is_empty d) q)) (empty_long d (both_right (is_time a) (is_empty d) q)))
      (λ q.
      either (both (is_empty a) (is_time d))
      (λ s. no_pass a d (empty_long a (both_left (is_empty a) (is_time d) s)) (time_long d (both_right (is_empty a) (is_time d) s)))
      (λ s.
      either (both (is_time a) (is_time d))
      (λ u. no_pass a d (time_long a (both_left (is_time a) (is_time d) u)) (time_long d (both_right (is_time a) (is_time d) u)))
      (λ u.
      go (one_cases (both (is_byte 124 d) (one_of (is_empty a) (is_byte 124 a))) (both (is_byte 60 d) (one_of (is_empty a) (is_byte 60 a)))
      (rw (p, q, s, u) at e))))))
    where
      go : {P : Type 0} → (both (is_byte 124 d) (one_of (is_empty a) (is_byte 124 a)) ≡ true) ⊎ (both (is_byte 60 d) (one_of (is_empty a) (is_byte 60 a)) ≡ true)
          → P
      go (inl b) = never_byte 124 b
      go (inr b) = never_byte 60 b

-- a record that meets its rule and has a time has neither
pub rule_no_pass : (r : Fields) → trip_stop_rule r ≡ true → timed r ≡ true → passes r ≡ false
unfolding trip_stop_rule timed arrives departs
rule_no_pass r e t =
    rule_times (arrival r) (departure r) t
    (both_left (times_rule (arrival r) (departure r)) (alike (given (kilometres r)) (time_or_bar (arrival r) (departure r))) e)
