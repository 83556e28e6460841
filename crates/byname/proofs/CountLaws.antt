-- How many stops have a name, counted record by record.
use mathlib.Core.Path.{◌≡◌, refl}
use mathlib.Core.Bool.{Bool, true, false}
use mathlib.Core.List.{List, [], ◌∷◌}
use Prim.Native.Nat.{ℕ, ◌+◌, ◌≤◌}
use native.Mathlib.Nat.{add-zero}
use native.Mathlib.Omega.{arith}
use lib.Dec.{eqb}
use lib.ListN.{length}
use borrow.Author.Tests.{ne_eqb}
use Rattle.laws.specs.Tests.{pick, either}
use Rattle.file.specs.Files.{fields_of, field_counts}
use Rattle.file.specs.Format.{Text, Fields}
use Rattle.field.specs.Kinds as kind
use Rattle.field.specs.Kinds.{kinds, kind_of}
use Rattle.link.specs.Met.{number}
use Rattle.link.specs.Numeric.{numeric, NumberAt}
use Rattle.trail.specs.Lists.{select}
use Rattle.named.specs.Names.{is_named, several}
use Rattle.byname.specs.TheOne.{the_one}
use Rattle.byname.specs.Counting.{settled_by, count_on}

-- A stop's number is one.
pub stop_key : NumberAt 2 1
unfolding numeric kind_of kinds kind.zastavky fields_of field_counts
stop_key = (refl, omega arith, omega arith)

-- COUNTED. What is left is counted on: a stop of the name, another one, or none.
module _ (town part place : Text) (found first : ℕ) {rs rest : List Fields} {r : Fields} (e : rs ≡ r ∷ rest)
    {t : Bool} (d : t ≡ is_named town part place r) where
  pub count_here : t ≡ true → {x y : ℕ} → y ≡ number 1 r → x ≡ pick (eqb found 0) y first
      → count_on town part place (found + 1) x rest ≡ count_on town part place found first rs
  unfolding count_on
  count_here h p q = rw (q, p, e, ← d, h)

  pub count_other : t ≡ false → count_on town part place found first rest ≡ count_on town part place found first rs
  unfolding count_on
  count_other h = rw (e, ← d, h)

pub count_end : (town part place : Text) (found first : ℕ) (rs : List Fields) → rs ≡ [] → settled_by found first ≡ count_on town part place found first rs
unfolding count_on
count_end town part place found first rs e = rw e

-- what is counted on is the one stop of the name among all
module _ (town part place : Text) where
  abbrev named : List Fields → List Fields
  named rs = select (is_named town part place) rs

  -- where two or more have been seen
  count_many : (n first : ℕ) → 2 ≤ n → (rs : List Fields) → count_on town part place n first rs ≡ several (n + length (named rs))
  unfolding count_on settled_by select
  count_many n first h [] = rw (ne_eqb n 0 (λ z. omega arith), ne_eqb n 1 (λ z. omega arith), add-zero)
  count_many n first h (r ∷ rs) =
      either (is_named town part place r)
      (λ t.
      let z : n + 1 + length (named rs) ≡ n + length (r ∷ named rs) = omega arith in
      rw (t, ← z) (count_many (n + 1) (pick (eqb n 0) (number 1 r) first) (omega arith) rs))
      (λ t. rw t (count_many n first h rs))

  -- where one has
  count_one : (q : Fields) (rs : List Fields) → count_on town part place 1 (number 1 q) rs ≡ the_one (q ∷ named rs)
  unfolding count_on settled_by the_one select
  count_one q [] = refl
  count_one q (r ∷ rs) =
      either (is_named town part place r)
      (λ t.
      let z : 2 + length (named rs) ≡ length (q ∷ r ∷ named rs) = omega arith in
      rw (t, ← z) (count_many 2 (number 1 q) (omega arith) rs))
      (λ t. rw t (count_one q rs))

  pub count_on_is : (rs : List Fields) → count_on town part place 0 0 rs ≡ the_one (select (is_named town part place) rs)
  unfolding count_on settled_by the_one select
  count_on_is [] = refl
  count_on_is (r ∷ rs) =
      either (is_named town part place r)
      (λ t. rw t (count_one r rs))
      (λ t. rw t (count_on_is rs))
