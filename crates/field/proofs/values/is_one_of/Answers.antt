-- `field::values::is_one_of` meets its contract: a text of one byte is tried as that byte, and no other text is one of the set's.
use Rattle.std.proofs.Common.{◌≡◌, ◌∙◌, List, [], ◌∷◌, ℕ, refl, get_or, length, arith, ne_eqb}
use Rattle.std.specs.Prelude.{eqb, ◌||◌, false, true, Bool}
use Rattle.std.specs.List.{list_any}
use Rattle.std.proofs.lemmas.Bool.Decides.{nat_tests}
use Rattle.laws.specs.Tests.{one_of}
use Rattle.field.specs.Values.{among}
use Rattle.field.proofs.ValueLaws.{byte_one, byte_other}
use Rattle.field.proofs.values.is_one_of.Goals as goal

swapped : (a b : ℕ) → eqb a b ≡ eqb b a
swapped a b = grind (arith, nat_tests)

whole : (set t : List ℕ) → length t ≡ 1 → list_any (λ b. eqb b (get_or t 0 0)) set ≡ among set t
unfolding among
whole [] t h = refl
whole (b ∷ set) t h = rw (byte_one t b h, swapped b (get_or t 0 0)) (go (eqb (get_or t 0 0) b) (whole set t h))
  where
    go : (p : Bool) {r s : Bool} → r ≡ s → (p || r) ≡ one_of p s
    go true e = refl
    go false e = e

none : (set t : List ℕ) → (length t ≡ 1 → ⊥) → false ≡ among set t
unfolding among
none [] t h = refl
none (b ∷ set) t h = rw (byte_other t b h) (none set t h)

pub returns-then-t-eq1 : goal.returns-then-t-eq1
returns-then-t-eq1 c = c.contains.ensures.value ∙ whole _ _ c.if-t-eq1.true

pub returns-else-t-eq1 : goal.returns-else-t-eq1
returns-else-t-eq1 c = rw (ne_eqb _ _ c.if-t-eq1.false) (none _ _ c.if-t-eq1.false)
