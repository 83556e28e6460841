-- Laws of the leaves: what a time field is by its kind, and what a record says.
use mathlib.Core.Path.{◌≡◌, refl}
use mathlib.Core.Bool.{Bool, true, false}
use mathlib.Core.List.{List, [], ◌∷◌}
use Prim.Native.Nat.{ℕ, ◌+◌, ◌≤◌}
use native.Mathlib.Omega.{arith}
use lib.Dec.{eqb}
use lib.ListN.{length}
use borrow.Author.Tests.{eqb-true, eqb-false, ne_eqb}
use Rattle.laws.specs.Tests.{both, either, never}
use Rattle.file.specs.Format.{Text, Fields}
use Rattle.field.specs.Kinds.{admits}
use Rattle.field.specs.Names.{kilometres, arrival, departure}
use Rattle.field.specs.Values.{is_empty, given, among, all_digits, value, is_time}
use Rattle.field.specs.declared.Kind.{Kind}
use Rattle.field.proofs.AdmitLaws.{given_digits}
use Rattle.field.proofs.ValueLaws.{digits_are, time_digits}
use Rattle.trip.specs.Stops.{arrives, departs, passes_in, blank}
use Rattle.trip.proofs.DayLaws.{among_size}
use Rattle.track.specs.declared.Visit.{Visit}
use Rattle.course.specs.Course.{minute_or, visit_of}

-- A TIME FIELD
module _ (t : Text) (e : admits Kind.Time t ≡ true) where
  abbrev passing : List ℕ
  passing = 124 ∷ 60 ∷ []

  -- of four bytes holds a time, and no other does
  pub four_timed : eqb (length t) 4 ≡ is_time t
  unfolding admits
  four_timed =
      either (is_time t)
      (λ p. let d = time_digits t p in let z : length t ≡ 4 = omega (arith, d.least, d.most) in rw (p, z))
      (λ p. rw p (ne_eqb (length t) 4 (λ z. other p z)))
    where
      other : is_time t ≡ false → length t ≡ 4 → ⊥
      other p z =
          either (among passing t)
          (λ q. let y = among_size passing t q in omega arith)
          (λ q. never (rw (z, q, p) at e))

  -- of one byte is `|` or `<`, and no other is
  pub one_passes : length t ≡ 1 → among passing t ≡ true
  unfolding admits
  one_passes z =
      either (among passing t)
      (λ q. q)
      (λ q. either (is_time t)
      (λ p. let d = time_digits t p in absurd (omega (arith, d.least)))
      (λ p. never (rw (z, q, p) at e)))

  pub else_passes_not : (length t ≡ 1 → ⊥) → among passing t ≡ false
  else_passes_not h = either (among passing t) (λ q. absurd (h (among_size passing t q))) (λ q. q)

  pub one_is_pass : eqb (length t) 1 ≡ among passing t
  one_is_pass =
      either (eqb (length t) 1)
      (λ q. rw (q, one_passes (eqb-true (length t) 1 q)))
      (λ q. rw (q, else_passes_not (eqb-false (length t) 1 q)))

-- WHAT A RECORD SAYS
-- its kilometres can be read, given or not
none_digits : (t : Text) → length t ≡ 0 → all_digits t ≡ true
unfolding all_digits
none_digits [] z = refl
none_digits (b ∷ t) z = absurd (omega arith)

pub maybe_number : (t : Text) → admits (Kind.MaybeDigits 1 9) t ≡ true → (all_digits t ≡ true) × (length t ≤ 18)
maybe_number t e =
    either (is_empty t)
    (λ p. let z = eqb-true (length t) 0 p in (none_digits t z, omega arith))
    (λ p.
    let g : given t ≡ true = rw p in
    let d = digits_are 1 9 t (given_digits 1 9 t e g) in
    (d.digits, omega (arith, d.most)))

pub visit_is : (r : Fields) {a d k : Text} {comes goes stands none some : Bool} {early late far : ℕ}
    → arrival r ≡ a → departure r ≡ d → kilometres r ≡ k
    → comes ≡ is_time a → early ≡ minute_or a → goes ≡ is_time d → late ≡ minute_or d → stands ≡ passes_in a d → none ≡ both (is_empty a) (is_empty d) → some ≡ given k → far ≡ value k
    → ◌≡◌ {A = Visit}
    (record {
      arrives = comes;
      arrival = early;
      departs = goes;
      departure = late;
      passes = stands;
      blank = none;
      measured = some;
      kilometre = far;
    })
    (visit_of r)
unfolding visit_of arrives departs blank
visit_is r e f g p q s u v n o w = rw (e, f, g, p, q, s, u, v, n, o, w)
