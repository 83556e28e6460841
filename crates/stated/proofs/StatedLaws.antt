-- Laws of the rules on what is stated: the state CZ by its two bytes, and the six cases of arrival and departure as three.
use mathlib.Core.Path.{◌≡◌, refl}
use mathlib.Core.Bool.{Bool, true, false}
use mathlib.Core.List.{[], ◌∷◌}
use native.Mathlib.Omega.{arith}
use lib.Dec.{eqb}
use lib.ListN.{length, get_or}
use Rattle.laws.specs.Tests.{both, one_of}
use Rattle.file.specs.Format.{Text}
use Rattle.field.specs.Values.{is_empty, is_byte, is_time}
use Rattle.field.specs.Rules.{is_cz, times_rule}

-- CZ is two bytes, and seen from them
pub cz_other : (t : Text) → (length t ≡ 2 → ⊥) → is_cz t ≡ false
unfolding is_cz
cz_other [] h = refl
cz_other (a ∷ []) h = refl
cz_other (a ∷ b ∷ []) h = absurd (h refl)
cz_other (a ∷ b ∷ c ∷ t) h = refl

pub cz_two : (t : Text) → length t ≡ 2 → is_cz t ≡ both (eqb (get_or t 0 0) 67) (eqb (get_or t 1 0) 90)
unfolding is_cz
cz_two [] h = absurd (omega arith)
cz_two (a ∷ []) h = absurd (omega arith)
cz_two (a ∷ b ∷ []) h = refl
cz_two (a ∷ b ∷ c ∷ t) h = absurd (omega arith)

-- the four cases of empty and a time say that each of the two is empty or a time
four : (p t q u x : Bool)
    → one_of (both p q) (one_of (both t q) (one_of (both p u) (one_of (both t u) x))) ≡ one_of (both (one_of p t) (one_of q u)) x
four true true true u x = refl
four true true false true x = refl
four true true false false x = refl
four true false true u x = refl
four true false false true x = refl
four true false false false x = refl
four false true true u x = refl
four false true false true x = refl
four false true false false x = refl
four false false q u x = refl

pub times_are : (a d : Text)
    → times_rule a d
    ≡ one_of (both (one_of (is_empty a) (is_time a)) (one_of (is_empty d) (is_time d)))
    (one_of (both (is_byte 124 d) (one_of (is_empty a) (is_byte 124 a))) (both (is_byte 60 d) (one_of (is_empty a) (is_byte 60 a))))
unfolding times_rule
times_are a d = four (is_empty a) (is_time a) (is_empty d) (is_time d) _
