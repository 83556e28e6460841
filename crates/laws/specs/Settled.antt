-- A promise that is an equation `numbered r ≡ answer` allows one result only, where `numbered` tells all results apart: `settled`, the one law.
-- `settled_self` is that law for a result with no numbering, and `settled_both` puts two together.
use Rattle.std.specs.Prelude.{◌≡◌}
use Rattle.std.proofs.Common.{sym, ap, ◌∙◌}

-- any two results that the promise P allows are equal
abbrev pub Settled {ℓ} : {R : Type ℓ} → (R → Type 0) → Type ℓ
Settled {R = R} P = (x y : R) → P x → P y → x ≡ y

-- f tells all values apart
abbrev pub OneToOne : {A B : Type 0} → (A → B) → Type 0
OneToOne {A = A} f = (x y : A) → f x ≡ f y → x ≡ y

pub settled : {A B : Type 0} (f : A → B) → OneToOne f → (answer : B) → Settled (λ (r : A). f r ≡ answer)
settled f one answer x y p q = one x y (p ∙ sym q)

pub settled_self : {A : Type 0} (answer : A) → Settled (λ (r : A). r ≡ answer)
settled_self {A = A} answer = settled (λ (r : A). r) (λ x y e. e) answer

-- what can be told back from f, f tells apart
pub told_back : {A B : Type 0} (f : A → B) (back : B → A) → ((x : A) → back (f x) ≡ x) → OneToOne f
told_back f back told x y e = sym (told x) ∙ ap back e ∙ told y

-- two results at once, each settled
pair : {A B : Type 0} {a c : A} {b d : B} → a ≡ c → b ≡ d → ◌≡◌ {A = A × B} (a, b) (c, d)
pair e f = cc

pub settled_both : {A B : Type 0} (P : A → Type 0) (Q : B → Type 0) → Settled P → Settled Q → Settled (λ (r : A × B). P r.0 × Q r.1)
settled_both P Q one other x y p q = pair (one x.0 y.0 p.0 q.0) (other x.1 y.1 p.1 q.1)
