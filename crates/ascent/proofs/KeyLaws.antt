-- The key of a record that was cut, by the numbers in its fields.
use mathlib.Core.Path.{◌≡◌}
use mathlib.Core.List.{[], ◌∷◌}
use Prim.Native.Nat.{ℕ, ◌+◌, ◌*◌, ◌≤◌, ◌<◌}
use native.Mathlib.Omega.{arith}
use Rattle.file.specs.Format.{Fields}
use Rattle.field.specs.Names.{field}
use Rattle.field.specs.Values.{value}
use Rattle.keys.specs.Keys.{key_table, key_fields, numbers, none}
use Rattle.keys.specs.Ranks.{IsKeyed, rank, rank_of, rank_key, KeyIs}
use Rattle.keys.proofs.TableLaws.{one_of_lem, keyed_one}
use Rattle.link.specs.Numeric.{NumberAt, NumbersAt}
use Rattle.link.proofs.KindOfLinks.{keyed_numeric}

-- fields 2 and 3 are numbers where they belong to the key
pub second_number : (file : ℕ) → 6 ≤ file → file ≤ 10 → NumberAt file 2
unfolding key_fields key_table
second_number file h g =
    one_of_lem (λ (k : ℕ). NumbersAt k (key_fields k) → NumberAt k 2) 6 5
    (λ x. x.1.0, (λ x. x.1.0, (λ x. x.1.0, (λ x. x.1.0, (λ x. x.1.0, tt)))))
    file h (omega arith) (keyed_numeric file)

pub third_number : (file : ℕ) → key_fields file ≡ 1 ∷ 2 ∷ 3 ∷ [] → NumberAt file 3
third_number file e =
    let n : NumbersAt file (1 ∷ 2 ∷ 3 ∷ []) = rw e at (keyed_numeric file) in
    n.1.1.0

-- a key of one number, of two and of three
module _ (file : ℕ) (r : Fields) (a : ℕ) (p : a ≡ value (field 1 r)) where
  pub key_one : IsKeyed file → file < 6 → KeyIs (rank_of file r) (record { hi = a; lo = 0 })
  unfolding rank_key rank numbers
  key_one k l = record { rank = rw (keyed_one file k.0 l, p) (omega arith); low = omega arith }

  module _ (b : ℕ) (q : b ≡ value (field 2 r)) where
    pub key_two : key_fields file ≡ 1 ∷ 2 ∷ [] → KeyIs (rank_of file r) (record { hi = a * 1000000000 + b; lo = 0 })
    unfolding rank_key rank numbers
    key_two e = record { rank = rw (e, p, q) (omega arith); low = omega arith }

    pub key_three : key_fields file ≡ 1 ∷ 2 ∷ 3 ∷ [] → (c : ℕ) → c ≡ value (field 3 r) → c < none → KeyIs (rank_of file r) (record { hi = a * 1000000000 + b; lo = c })
    unfolding rank_key rank numbers
    key_three e c w l = record { rank = rw (e, p, q, w) (omega arith); low = l }
