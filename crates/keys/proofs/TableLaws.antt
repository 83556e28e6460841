-- The table of keys, file by file.
use mathlib.Core.Path.{◌≡◌, refl, sym, subst}
use mathlib.Core.Bool.{true}
use mathlib.Core.List.{[], ◌∷◌}
use Prim.Native.Nat.{ℕ, zero, suc, ◌+◌, ◌≤◌, ◌<◌}
use native.Mathlib.Omega.{arith}
use lib.Dec.{eqb}
use lib.ListN.{length}
use borrow.Author.Tests.{eqb-true, eqb-false}
use Rattle.laws.specs.Tests.{either}
use Rattle.file.specs.Files.{fields_of, field_counts}
use Rattle.file.specs.Format.{Fields}
use Rattle.field.specs.Values.{is_digits}
use Rattle.field.specs.Names.{field}
use Rattle.keys.specs.Keys.{key_table, key_fields}
use Rattle.keys.specs.Ranks.{Numbers, IsKeyed}

-- what holds of each of n numbers from a on, and one of them
abbrev Run : (ℕ → Type 0) → ℕ → ℕ → Type 0
Run P a zero = Unit
Run P a (suc n) = P a × Run P (suc a) n

pub one_of_lem : (P : ℕ → Type 0) (a n : ℕ) → Run P a n → (k : ℕ) → a ≤ k → k < a + n → P k
one_of_lem P a zero r k h g = absurd (omega arith)
one_of_lem P a (suc n) r k h g =
    either (eqb k a)
    (λ e. subst P (sym (eqb-true k a e)) r.0)
    (λ e. let ne = eqb-false k a e in one_of_lem P (suc a) n r.1 k (omega arith) (omega arith))

-- the key fields of a file: one, two or three
pub keyed_one : (file : ℕ) → 2 ≤ file → file < 6 → key_fields file ≡ 1 ∷ []
unfolding key_fields key_table
keyed_one file h g = one_of_lem (λ (f : ℕ). key_fields f ≡ 1 ∷ []) 2 4 (refl, (refl, (refl, (refl, tt)))) file h (omega arith)

pub keyed_two : (file : ℕ) → 6 ≤ file → file < 8 → key_fields file ≡ 1 ∷ 2 ∷ []
unfolding key_fields key_table
keyed_two file h g = one_of_lem (λ (f : ℕ). key_fields f ≡ 1 ∷ 2 ∷ []) 6 2 (refl, (refl, tt)) file h (omega arith)

pub keyed_nine : (file : ℕ) → file ≡ 9 → key_fields file ≡ 1 ∷ 2 ∷ []
unfolding key_fields key_table
keyed_nine file e = rw e

pub keyed_eight : (file : ℕ) → file ≡ 8 → key_fields file ≡ 1 ∷ 2 ∷ 3 ∷ []
unfolding key_fields key_table
keyed_eight file e = rw e

pub keyed_ten : (file : ℕ) → file ≡ 10 → key_fields file ≡ 1 ∷ 2 ∷ 3 ∷ []
unfolding key_fields key_table
keyed_ten file e = rw e

pub keyed_three : (file : ℕ) → 8 ≤ file → file ≤ 10 → (file ≡ 9 → ⊥) → key_fields file ≡ 1 ∷ 2 ∷ 3 ∷ []
keyed_three file h g n =
    either (eqb file 8)
    (λ e. keyed_eight file (eqb-true file 8 e))
    (λ e. let z = eqb-false file 8 e in keyed_ten file (omega arith))

-- the numbers of a key, one by one: the first, the second from file 6 on, and the third where there are three
pub number_one : (file : ℕ) (r : Fields) → IsKeyed file → Numbers (key_fields file) r → is_digits 1 9 (field 1 r) ≡ true
unfolding key_fields key_table Numbers
number_one file r k n =
    one_of_lem (λ (f : ℕ). Numbers (key_fields f) r → is_digits 1 9 (field 1 r) ≡ true) 2 9
    (λ x. x.0, (λ x. x.0, (λ x. x.0, (λ x. x.0, (λ x. x.0, (λ x. x.0, (λ x. x.0, (λ x. x.0, (λ x. x.0, tt)))))))))
    file k.0 (omega arith) n

pub number_two : (file : ℕ) (r : Fields) → 6 ≤ file → file ≤ 10 → Numbers (key_fields file) r → is_digits 1 9 (field 2 r) ≡ true
unfolding key_fields key_table Numbers
number_two file r h g n =
    one_of_lem (λ (f : ℕ). Numbers (key_fields f) r → is_digits 1 9 (field 2 r) ≡ true) 6 5
    (λ x. x.1.0, (λ x. x.1.0, (λ x. x.1.0, (λ x. x.1.0, (λ x. x.1.0, tt)))))
    file h (omega arith) n

pub number_three : (file : ℕ) (r : Fields) → key_fields file ≡ 1 ∷ 2 ∷ 3 ∷ [] → Numbers (key_fields file) r → is_digits 1 9 (field 3 r) ≡ true
unfolding Numbers
number_three file r e n =
    let m : Numbers (1 ∷ 2 ∷ 3 ∷ []) r = rw e at n in
    m.1.1.0

-- a file with a key has fields enough for it, and not too many
pub keyed_fields : (file : ℕ) → IsKeyed file → (3 ≤ fields_of file) × (fields_of file ≤ 13)
unfolding fields_of field_counts
keyed_fields file k =
    one_of_lem (λ (f : ℕ). (3 ≤ fields_of f) × (fields_of f ≤ 13)) 2 9
    (omega arith, (omega arith, (omega arith, (omega arith, (omega arith, (omega arith, (omega arith, (omega arith, (omega arith, tt)))))))))
    file k.0 (omega arith)

-- a key is one, two or three numbers
pub key_fields_lem : (file : ℕ) → IsKeyed file → (1 ≤ length (key_fields file)) × (length (key_fields file) ≤ 3)
unfolding key_fields key_table
key_fields_lem file k =
    one_of_lem (λ (f : ℕ). (1 ≤ length (key_fields f)) × (length (key_fields f) ≤ 3)) 2 9
    (omega arith, (omega arith, (omega arith, (omega arith, (omega arith, (omega arith, (omega arith, (omega arith, (omega arith, tt)))))))))
    file k.0 (omega arith)
