-- The first of a list that passes a test, its place, and travel order by places; a key that one of the records has, and that one record has.
use mathlib.Core.Path.{◌≡◌, refl, sym, ap, ◌∙◌}
use mathlib.Core.Bool.{Bool, true, false}
use mathlib.Core.List.{List, [], ◌∷◌}
use Prim.Native.Nat.{ℕ, ◌<◌, ◌%◌}
use native.Mathlib.Omega.{arith}
use lib.Dec.{eqb, ltb}
use lib.ListN.{length, get_or}
use borrow.Author.Tests.{ltb-true, ltb-false, lt-ltb, le-ltb}
use Rattle.laws.specs.Tests.{pick, both, either, never, clash}
use Rattle.file.specs.Format.{Fields}
use Rattle.keys.specs.Keys.{key_table, key_fields, numbers, key_of, same, has, of_trip, third}
use Rattle.link.specs.Met.{number, Stands, Distinct}
use Rattle.thirteen.specs.Batch.{Batch, records_of}
use Rattle.trail.specs.Lists.{select, some, first_or, each, rising, travel}
use Rattle.trail.proofs.ListLaws.{Climbing}
use Rattle.kept.proofs.Members.{In, in_first, in_later, some_in, in_some, in_travel, travel_in}
use Rattle.kept.proofs.OrderLaws.{travel_at}
use Rattle.ticket.specs.Sale.{before}

module _ {A : Type 0} (d : A) (test : A → Bool) where
  -- where the test holds for one, so many stand before the first, and it holds there
  pub before_at : (l : List A) → some test l ≡ true → (before test l < length l) × (test (get_or l (before test l) d) ≡ true)
  unfolding some before
  before_at [] e = never e
  before_at (a ∷ l) e =
      either (test a)
      (λ t. rw t (omega arith, t))
      (λ t. let h = before_at l (rw t at e) in rw t (omega (arith, h.0), h.1))

  -- the first stands in the list, and it holds for it
  pub first_in : (l : List A) → some test l ≡ true → In d l (first_or d test l) × (test (first_or d test l) ≡ true)
  unfolding some first_or
  first_in [] e = never e
  first_in (a ∷ l) e =
      either (test a)
      (λ t. rw t (in_first d a l, t))
      (λ t. let h = first_in l (rw t at e) in rw t (in_later d a (first_or d test l) l h.0, h.1))

  -- it holds for one in travel order exactly if it does for one
  pub some_travel : (order : A → ℕ) (trip : ℕ) (l : List A) → some test (travel order trip l) ≡ some test l
  some_travel order trip l =
      either (some test l)
      (λ t. let w = some_in d test l t in in_some d test w.0 (travel order trip l) (in_travel d order trip w.0 l w.1) w.2 ∙ sym t)
      (λ t.
      either (some test (travel order trip l))
      (λ u. let w = some_in d test (travel order trip l) u in clash (in_some d test w.0 l (travel_in d order trip w.0 l w.1) w.2) t)
      (λ u. u ∙ sym t))

module _ {A B : Type 0} (f : A → B) (test : B → Bool) where
  -- the same of what f makes of each
  pub some_each : (l : List A) → some test (each f l) ≡ some (λ a. test (f a)) l
  unfolding some each
  some_each [] = refl
  some_each (a ∷ l) = rw (some_each l)

  -- and how many stand before the first
  pub before_each : (l : List A) → before test (each f l) ≡ before (λ a. test (f a)) l
  unfolding before each
  before_each [] = refl
  before_each (a ∷ l) = rw (before_each l)

-- numbers that stand as places do compare as they do
order_is : (x y i j : ℕ) → (i < j → x < y) → (j < i → y < x) → (i ≡ j → x ≡ y) → ltb x y ≡ ltb i j
order_is x y i j f g h =
    either (ltb i j)
    (λ t. lt-ltb x y (f (ltb-true i j t)) ∙ sym t)
    (λ t.
    either (ltb j i)
    (λ u. let w = g (ltb-true j i u) in le-ltb x y (omega arith) ∙ sym t)
    (λ u. let w = h (omega (arith, ltb-false i j t, ltb-false j i u)) in le-ltb x y (omega arith) ∙ sym t))

-- in travel order a place is before another exactly as their numbers rise, or fall
module _ {A : Type 0} (d : A) (order : A → ℕ) (trip : ℕ) (l : List A) (c : Climbing order (rising order l)) (i j : ℕ)
    (h : i < length (travel order trip l)) (k : j < length (travel order trip l)) where
  abbrev here : ℕ
  here = order (get_or (travel order trip l) i d)

  abbrev there : ℕ
  there = order (get_or (travel order trip l) j d)

  pub travel_order : pick (eqb (trip % 2) 1) (ltb here there) (ltb there here) ≡ ltb i j
  travel_order =
      either (eqb (trip % 2) 1)
      (λ t.
      rw t (order_is here there i j (λ g. rw t at (travel_at d order trip l c i j g k)) (λ g. rw t at (travel_at d order trip l c j i g h))
      (λ e. ap (λ (n : ℕ). order (get_or (travel order trip l) n d)) e)))
      (λ t.
      rw t (order_is there here i j (λ g. rw t at (travel_at d order trip l c i j g k)) (λ g. rw t at (travel_at d order trip l c j i g h))
      (λ e. ap (λ (n : ℕ). order (get_or (travel order trip l) n d)) (sym e))))

-- KEYS. One of the records has a key exactly if one of a selection passes a test, where selection and test together are the key's.
pub has_select : (file : ℕ) (k : List ℕ) (p q : Fields → Bool) → ((r : Fields) → both (q r) (p r) ≡ same (key_of file r) k) → (rs : List Fields)
    → has file k rs ≡ some p (select q rs)
unfolding has some select
has_select file k p q h [] = refl
has_select file k p q h (r ∷ rs) =
    either (q r)
    (λ t. rw (← h r, has_select file k p q h rs, t))
    (λ t. rw (← h r, has_select file k p q h rs, t))

-- or if one of all is of that key
pub has_some : (file : ℕ) (k : List ℕ) (rs : List Fields) → has file k rs ≡ some (λ r. same (key_of file r) k) rs
unfolding has some
has_some file k [] = refl
has_some file k (r ∷ rs) = rw (has_some file k rs)

-- the third number of a key beside the first two
both_three : (x y z : Bool) → both (both x (both y true)) z ≡ both x (both y (both z true))
both_three true true true = refl
both_three true true false = refl
both_three true false z = refl
both_three false y z = refl

-- a record of a trip with a tariff number has the key of these three
pub stop_key : (line trip tariff : ℕ) (r : Fields) → both (of_trip 8 line trip r) (eqb (third 8 r) tariff) ≡ same (key_of 8 r) (line ∷ trip ∷ tariff ∷ [])
unfolding of_trip third key_fields key_table numbers same
stop_key line trip tariff r = both_three (eqb (number 1 r) line) (eqb (number 2 r) trip) (eqb (number 3 r) tariff)

-- where no two records have one key, two that have it are one
pub one_record : (b : Batch) (file : ℕ) → Distinct b file → (x y : Fields) → Stands b file x → Stands b file y → key_of file x ≡ key_of file y → x ≡ y
one_record b file once x y p q e =
    let f : key_of file (get_or (records_of b file) p.0 []) ≡ key_of file (get_or (records_of b file) q.0 []) = rw (p.2, q.2) e in
    either (ltb p.0 q.0)
    (λ t. absurd (once p.0 q.0 (ltb-true p.0 q.0 t) q.1 f))
    (λ t.
    either (ltb q.0 p.0)
    (λ u. absurd (once q.0 p.0 (ltb-true q.0 p.0 u) p.1 (sym f)))
    (λ u.
    let z : p.0 ≡ q.0 = omega (arith, ltb-false p.0 q.0 t, ltb-false q.0 p.0 u) in
    sym p.2 ∙ ap (λ (i : ℕ). get_or (records_of b file) i []) z ∙ q.2))
