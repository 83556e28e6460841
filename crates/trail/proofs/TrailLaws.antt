-- A walk along a trip's records by their numbers comes to each of them in its order: the record that a step finds is the first of those that
-- are ahead, and behind it stand those that are ahead of it.
use Rattle.std.specs.Prelude.{None, Option, Some}
use mathlib.Core.Path.{◌≡◌, refl, sym, ap, subst, ◌∙◌}
use mathlib.Core.Bool.{Bool, true, false}
use mathlib.Core.List.{List, [], ◌∷◌, ◌++◌, append-nil}
use mathlib.Core.Logic.{inl, inr}
use Prim.Native.Nat.{ℕ, suc, ◌+◌, ◌-◌, ◌≤◌, ◌<◌}
use native.Mathlib.Omega.{arith}
use lib.Dec.{eqb, ltb, leb}
use lib.ListN.{length, get_or, take}
use borrow.Author.Tests.{eq-eqb, eqb-true, eqb-false, lt-ltb, le-ltb, ltb-true, ltb-false, le-leb, lt-leb, leb-true, leb-false}
use Rattle.laws.specs.Tests.{pick, both, one_of, either, clash, both_left, both_right}
use Rattle.file.specs.Files.{fields_of}
use Rattle.file.specs.Format.{Fields}
use Rattle.file.specs.Records.{records_in}
use Rattle.file.proofs.RecordLaws.{legible}
use Rattle.walk.specs.Walk.{LegalFrom}
use Rattle.lines.specs.Lines.{behind, Place}
use Rattle.lines.proofs.LineLaws.{place_on, place_start, next_at}
use Rattle.lines.proofs.OrderLaws.{found_place}
use Rattle.keys.specs.Keys.{key_fields, key_of, same, has, first_with, of_trip, third, none, next_number, next_of}
use Rattle.keys.specs.Ranks.{rank, rank_of, AllKeyed, record_at}
use Rattle.keys.specs.KeyFiles.{KeyFile, PlaceIn, records_from}
use Rattle.keys.proofs.KeyLaws.{key_size, same_self, same_equal, rank_key_lem, third_small, has_none}
use Rattle.keys.proofs.KeyFileLaws.{key_here, first_with_lem}
use Rattle.find.proofs.FindLaws.{small_three}
use Rattle.find.proofs.TripLaws.{next_most, next_nothing, next_found}
use Rattle.previous.specs.Previous.{previous_number, previous_of}
use Rattle.thirteen.specs.Batch.{Batch, records_of}
use Rattle.link.specs.Met.{Distinct}
use Rattle.link.proofs.HasLaws.{one_left, one_right, has_holds}
use Rattle.trail.specs.Lists.{select, backward}
use Rattle.trail.specs.Trail.{upward, ahead, begin, after, step_of, Once, place_of, Comes}
use Rattle.trail.proofs.ListLaws.{
  All,
  In,
  Climbing,
  Apart,
  all_in,
  all_then,
  all_both,
  all_select,
  all_rising,
  in_between,
  in_select,
  in_rising,
  select_all,
  select_none,
  select_pass,
  rising_climbing,
  backward_append,
}

-- Those that are ahead, where numbers strictly rise.
module _ {A : Type 0} (number : A → ℕ) where
  -- the first from x on, and those behind it
  first_up : (x : ℕ) (q : A) (l : List A) → Climbing number l → In q l → x ≤ number q → All (λ a. x ≤ number a → number q ≤ number a) l
      → select (λ a. leb x (number a)) l ≡ q ∷ select (λ a. leb (number q + 1) (number a)) l
  unfolding All In Climbing select
  first_up x q [] c i h least = absurd i
  first_up x q (a ∷ rest) c (inl e) h least =
      let d : number a ≡ number q = ap number e in
      let all = all_then (λ b. number a < number b) (λ b. leb x (number b) ≡ true) (λ b g. le-leb x (number b) (omega arith)) rest c.0 in
      let later = all_then (λ b. number a < number b) (λ b. leb (number q + 1) (number b) ≡ true) (λ b g. le-leb (number q + 1) (number b) (omega arith)) rest c.0 in
      let t : leb x (number a) ≡ true = le-leb x (number a) (omega arith) in
      let u : leb (number q + 1) (number a) ≡ false = lt-leb (number q + 1) (number a) (omega arith) in
      rw (t, u, e, select_all (λ b. leb x (number b)) rest all, select_all (λ b. leb (number q + 1) (number b)) rest later)
  first_up x q (a ∷ rest) c (inr i) h least =
      let g : number a < number q = all_in (λ b. number a < number b) q rest c.0 i in
      let low : number a < x = either (leb x (number a)) (λ t. absurd (omega (arith, least.0 (leb-true x (number a) t)))) (λ t. leb-false x (number a) t) in
      let t : leb x (number a) ≡ false = lt-leb x (number a) low in
      let u : leb (number q + 1) (number a) ≡ false = lt-leb (number q + 1) (number a) (omega arith) in
      rw (t, u) (first_up x q rest c.1 i h least.1)

  -- the last below x, and those before it
  last_down : (x : ℕ) (q : A) (l : List A) → Climbing number l → In q l → number q < x → All (λ a. number a < x → number a ≤ number q) l
      → select (λ a. ltb (number a) x) l ≡ select (λ a. ltb (number a) (number q)) l ++ (q ∷ [])
  unfolding All In Climbing select
  last_down x q [] c i h most = absurd i
  last_down x q (a ∷ rest) c (inl e) h most =
      let d : number a ≡ number q = ap number e in
      let past = all_then (λ b. (number a < number b) × (number b < x → number b ≤ number q)) (λ b. ltb (number b) x ≡ false)
      (λ b g. either (ltb (number b) x) (λ t. absurd (omega (arith, g.0, g.1 (ltb-true (number b) x t)))) (λ t. t)) rest
      (all_both (λ b. number a < number b) (λ b. number b < x → number b ≤ number q) rest c.0 most.1) in
      let later = all_then (λ b. number a < number b) (λ b. ltb (number b) (number q) ≡ false) (λ b g. le-ltb (number b) (number q) (omega arith)) rest c.0 in
      let t : ltb (number a) x ≡ true = lt-ltb (number a) x (omega arith) in
      let u : ltb (number a) (number q) ≡ false = le-ltb (number a) (number q) (omega arith) in
      rw (t, u, e, select_none (λ b. ltb (number b) x) rest past, select_none (λ b. ltb (number b) (number q)) rest later)
  last_down x q (a ∷ rest) c (inr i) h most =
      let g : number a < number q = all_in (λ b. number a < number b) q rest c.0 i in
      let t : ltb (number a) x ≡ true = lt-ltb (number a) x (omega arith) in
      let u : ltb (number a) (number q) ≡ true = lt-ltb (number a) (number q) g in
      rw (t, u) (ap (λ (l : List A). a ∷ l) (last_down x q rest c.1 i h most.1))

-- Keys of three numbers.
module _ (file line trip : ℕ) (count : length (key_fields file) ≡ 3) where
  -- the key of a trip's record
  trip_key : (r : Fields) → of_trip file line trip r ≡ true → key_of file r ≡ line ∷ trip ∷ third file r ∷ []
  unfolding of_trip third
  trip_key r h = go (key_of file r) (key_size file r ∙ count) h
    where
      go : (k : List ℕ) → length k ≡ 3 → same (take 2 k) (line ∷ trip ∷ []) ≡ true → k ≡ line ∷ trip ∷ get_or k 2 0 ∷ []
      go [] l e = absurd (omega arith)
      go (a ∷ []) l e = absurd (omega arith)
      go (a ∷ b ∷ []) l e = absurd (omega arith)
      go (a ∷ b ∷ c ∷ []) l e = ap (λ (k : List ℕ). k ++ (c ∷ [])) (same_equal (a ∷ b ∷ []) (line ∷ trip ∷ []) e)
      go (a ∷ b ∷ c ∷ d ∷ k) l e = absurd (omega arith)

  -- a record with such a key is of the trip
  key_trip : (r : Fields) (y : ℕ) → key_of file r ≡ line ∷ trip ∷ y ∷ [] → (of_trip file line trip r ≡ true) × (third file r ≡ y)
  unfolding of_trip third
  key_trip r y e = (rw e (same_self (line ∷ trip ∷ [])), rw e)

  -- where no two records have one key, those of a trip have different third numbers
  no_key : (k : List ℕ) (rs : List Fields) → has file k rs ≡ false → All (λ r. same (key_of file r) k ≡ false) rs
  unfolding All has
  no_key k [] e = tt
  no_key k (r ∷ rs) e =
      either (same (key_of file r) k)
      (λ t. clash (one_left (same (key_of file r) k) (has file k rs) t) e)
      (λ t. (t, no_key k rs (rw t at e)))

  trip_apart : (rs : List Fields) → Once file rs → Apart (third file) (select (of_trip file line trip) rs)
  unfolding Apart Once select
  trip_apart [] o = tt
  trip_apart (r ∷ rs) o =
      either (of_trip file line trip r)
      (λ t.
      let mine = select_pass (of_trip file line trip) rs in
      let free = all_select (of_trip file line trip) (λ q. same (key_of file q) (key_of file r) ≡ false) rs (no_key (key_of file r) rs o.0) in
      let other = all_then (λ q. (of_trip file line trip q ≡ true) × (same (key_of file q) (key_of file r) ≡ false)) (λ q. third file q ≡ third file r → ⊥)
      (λ q g e.
      let z : key_of file q ≡ key_of file r = trip_key q g.0 ∙ rw e (sym (trip_key r t)) in
      let y : same (key_of file q) (key_of file r) ≡ true = rw z (same_self (key_of file r)) in
      clash y g.1)
      (select (of_trip file line trip) rs)
      (all_both (λ q. of_trip file line trip q ≡ true) (λ q. same (key_of file q) (key_of file r) ≡ false) (select (of_trip file line trip) rs) mine free) in
      rw t (other, trip_apart rs o.1))
      (λ t. rw t (trip_apart rs o.1))

  -- so they strictly rise
  pub trip_climbing : (rs : List Fields) → Once file rs → Climbing (third file) (upward file line trip rs)
  unfolding upward
  trip_climbing rs o = rising_climbing (third file) (select (of_trip file line trip) rs) (trip_apart rs o)

  -- what the least number from x on is, case by case
  next_first : (x : ℕ) (r : Fields) (rs : List Fields) → both (of_trip file line trip r) (leb x (third file r)) ≡ true
      → leb (third file r) (next_number file line trip x rs) ≡ true → next_number file line trip x (r ∷ rs) ≡ third file r
  unfolding next_number
  next_first x r rs t v = rw (t, v)

  next_end : (x : ℕ) → next_number file line trip x [] ≡ none
  unfolding next_number
  next_end x = refl

  next_later : (x : ℕ) (r : Fields) (rs : List Fields) → both (of_trip file line trip r) (leb x (third file r)) ≡ true
      → leb (third file r) (next_number file line trip x rs) ≡ false → next_number file line trip x (r ∷ rs) ≡ next_number file line trip x rs
  unfolding next_number
  next_later x r rs t v = rw (t, v)

  next_pass : (x : ℕ) (r : Fields) (rs : List Fields) → both (of_trip file line trip r) (leb x (third file r)) ≡ false
      → next_number file line trip x (r ∷ rs) ≡ next_number file line trip x rs
  unfolding next_number
  next_pass x r rs t = rw t

  -- The least number from x on: no record of the trip from x on has a lesser one, and one has it.
  next_least : (x : ℕ) (rs : List Fields) → All (λ r. x ≤ third file r → next_number file line trip x rs ≤ third file r) (select (of_trip file line trip) rs)
  unfolding All select
  next_least x [] = tt
  next_least x (r ∷ rs) =
      let n = next_number file line trip x rs in
      let m = next_number file line trip x (r ∷ rs) in
      either (of_trip file line trip r)
      (λ t.
      either (leb x (third file r))
      (λ u.
      let b : both (of_trip file line trip r) (leb x (third file r)) ≡ true = rw (t, u) in
      either (leb (third file r) n)
      (λ v.
      let h = leb-true (third file r) n v in
      let e : m ≡ third file r = next_first x r rs b v in
      rw (e, t) (
        λ _. omega arith,
        all_then (λ q. x ≤ third file q → n ≤ third file q) (λ q. x ≤ third file q → third file r ≤ third file q) (λ q g l. omega (arith, g l))
            (select (of_trip file line trip) rs) (next_least x rs),
      ))
      (λ v.
      let h = leb-false (third file r) n v in
      let e : m ≡ n = next_later x r rs b v in
      rw (e, t) (λ _. omega arith, next_least x rs)))
      (λ u.
      let e : m ≡ n = next_pass x r rs (rw (t, u)) in
      rw (e, t) (λ l. absurd (omega (arith, leb-false x (third file r) u)), next_least x rs)))
      (λ t.
      let e : m ≡ n = next_pass x r rs (rw t) in
      rw (e, t) (next_least x rs))

  next_has : (x : ℕ) (rs : List Fields) → (next_number file line trip x rs ≡ none → ⊥)
      → (x ≤ next_number file line trip x rs) × (has file (line ∷ trip ∷ next_number file line trip x rs ∷ []) rs ≡ true)
  unfolding has
  next_has x [] h = absurd (h (next_end x))
  next_has x (r ∷ rs) h =
      let n = next_number file line trip x rs in
      let m = next_number file line trip x (r ∷ rs) in
      let P : ℕ → Type 0 = λ y. (x ≤ y) × (has file (line ∷ trip ∷ y ∷ []) (r ∷ rs) ≡ true) in
      either (both (of_trip file line trip r) (leb x (third file r)))
      (λ t.
      let mine = both_left (of_trip file line trip r) (leb x (third file r)) t in
      let from = leb-true x (third file r) (both_right (of_trip file line trip r) (leb x (third file r)) t) in
      either (leb (third file r) n)
      (λ v.
      let e : m ≡ third file r = next_first x r rs t v in
      subst P (sym e) (from, here r mine rs))
      (λ v.
      let e : m ≡ n = next_later x r rs t v in
      subst P (sym e) (later r n rs (next_has x rs (rw e at h)))))
      (λ t.
      let e : m ≡ n = next_pass x r rs t in
      subst P (sym e) (later r n rs (next_has x rs (rw e at h))))
    where
      here : (r : Fields) → of_trip file line trip r ≡ true → (rs : List Fields)
          → one_of (same (key_of file r) (line ∷ trip ∷ third file r ∷ [])) (has file (line ∷ trip ∷ third file r ∷ []) rs) ≡ true
      here r mine rs =
          let k = line ∷ trip ∷ third file r ∷ [] in
          let e : same (key_of file r) k ≡ true = rw (trip_key r mine) (same_self k) in
          one_left (same (key_of file r) k) (has file k rs) e

      later : (r : Fields) (n : ℕ) (rs : List Fields) → (x ≤ n) × (has file (line ∷ trip ∷ n ∷ []) rs ≡ true)
          → (x ≤ n) × (one_of (same (key_of file r) (line ∷ trip ∷ n ∷ [])) (has file (line ∷ trip ∷ n ∷ []) rs) ≡ true)
      later r n rs p = (p.0, one_right (same (key_of file r) (line ∷ trip ∷ n ∷ [])) (has file (line ∷ trip ∷ n ∷ []) rs) p.1)

  -- what one more than the greatest number below x is, case by case
  previous_end : (x : ℕ) → previous_number file line trip x [] ≡ 0
  unfolding previous_number
  previous_end x = refl

  previous_first : (x : ℕ) (r : Fields) (rs : List Fields) → both (of_trip file line trip r) (ltb (third file r) x) ≡ true
      → leb (third file r + 1) (previous_number file line trip x rs) ≡ false → previous_number file line trip x (r ∷ rs) ≡ third file r + 1
  unfolding previous_number
  previous_first x r rs t v = rw (t, v)

  previous_later : (x : ℕ) (r : Fields) (rs : List Fields) → both (of_trip file line trip r) (ltb (third file r) x) ≡ true
      → leb (third file r + 1) (previous_number file line trip x rs) ≡ true → previous_number file line trip x (r ∷ rs) ≡ previous_number file line trip x rs
  unfolding previous_number
  previous_later x r rs t v = rw (t, v)

  previous_pass : (x : ℕ) (r : Fields) (rs : List Fields) → both (of_trip file line trip r) (ltb (third file r) x) ≡ false
      → previous_number file line trip x (r ∷ rs) ≡ previous_number file line trip x rs
  unfolding previous_number
  previous_pass x r rs t = rw t

  -- The greatest number below x, and one more: no record of the trip below x has a greater number, and one has it.
  previous_most : (x : ℕ) (rs : List Fields)
      → All (λ r. third file r < x → third file r + 1 ≤ previous_number file line trip x rs) (select (of_trip file line trip) rs)
  unfolding All select
  previous_most x [] = tt
  previous_most x (r ∷ rs) =
      let n = previous_number file line trip x rs in
      let m = previous_number file line trip x (r ∷ rs) in
      either (of_trip file line trip r)
      (λ t.
      either (ltb (third file r) x)
      (λ u.
      let b : both (of_trip file line trip r) (ltb (third file r) x) ≡ true = rw (t, u) in
      either (leb (third file r + 1) n)
      (λ v.
      let h = leb-true (third file r + 1) n v in
      let e : m ≡ n = previous_later x r rs b v in
      rw (e, t) (λ _. h, previous_most x rs))
      (λ v.
      let h = leb-false (third file r + 1) n v in
      let e : m ≡ third file r + 1 = previous_first x r rs b v in
      rw (e, t) (
        λ _. omega arith,
        all_then (λ q. third file q < x → third file q + 1 ≤ n) (λ q. third file q < x → third file q + 1 ≤ third file r + 1) (λ q g l. omega (arith, g l))
            (select (of_trip file line trip) rs) (previous_most x rs),
      )))
      (λ u.
      let e : m ≡ n = previous_pass x r rs (rw (t, u)) in
      rw (e, t) (λ l. absurd (omega (arith, ltb-false (third file r) x u)), previous_most x rs)))
      (λ t.
      let e : m ≡ n = previous_pass x r rs (rw t) in
      rw (e, t) (previous_most x rs))

  previous_has : (x : ℕ) (rs : List Fields) → (previous_number file line trip x rs ≡ 0 → ⊥)
      → (previous_number file line trip x rs ≤ x) × (has file (line ∷ trip ∷ (previous_number file line trip x rs - 1) ∷ []) rs ≡ true)
  unfolding has
  previous_has x [] h = absurd (h (previous_end x))
  previous_has x (r ∷ rs) h =
      let n = previous_number file line trip x rs in
      let m = previous_number file line trip x (r ∷ rs) in
      let P : ℕ → Type 0 = λ y. (y ≤ x) × (has file (line ∷ trip ∷ (y - 1) ∷ []) (r ∷ rs) ≡ true) in
      either (both (of_trip file line trip r) (ltb (third file r) x))
      (λ t.
      let mine = both_left (of_trip file line trip r) (ltb (third file r) x) t in
      let below = ltb-true (third file r) x (both_right (of_trip file line trip r) (ltb (third file r) x) t) in
      either (leb (third file r + 1) n)
      (λ v.
      let e : m ≡ n = previous_later x r rs t v in
      subst P (sym e) (later r n rs (previous_has x rs (rw e at h))))
      (λ v.
      let e : m ≡ third file r + 1 = previous_first x r rs t v in
      subst P (sym e) (omega arith, here r mine rs)))
      (λ t.
      let e : m ≡ n = previous_pass x r rs t in
      subst P (sym e) (later r n rs (previous_has x rs (rw e at h))))
    where
      here : (r : Fields) → of_trip file line trip r ≡ true → (rs : List Fields)
          → one_of (same (key_of file r) (line ∷ trip ∷ (third file r + 1 - 1) ∷ [])) (has file (line ∷ trip ∷ (third file r + 1 - 1) ∷ []) rs) ≡ true
      here r mine rs =
          let k = line ∷ trip ∷ (third file r + 1 - 1) ∷ [] in
          let z : third file r + 1 - 1 ≡ third file r = omega arith in
          let e : same (key_of file r) k ≡ true = rw (z, trip_key r mine) (same_self (line ∷ trip ∷ third file r ∷ [])) in
          one_left (same (key_of file r) k) (has file k rs) e

      later : (r : Fields) (n : ℕ) (rs : List Fields) → (n ≤ x) × (has file (line ∷ trip ∷ (n - 1) ∷ []) rs ≡ true)
          → (n ≤ x) × (one_of (same (key_of file r) (line ∷ trip ∷ (n - 1) ∷ [])) (has file (line ∷ trip ∷ (n - 1) ∷ []) rs) ≡ true)
      later r n rs p = (p.0, one_right (same (key_of file r) (line ∷ trip ∷ (n - 1) ∷ [])) (has file (line ∷ trip ∷ (n - 1) ∷ []) rs) p.1)

  -- no number has ten digits
  previous_small : (x : ℕ) (rs : List Fields) → AllKeyed file rs → previous_number file line trip x rs ≤ none
  unfolding AllKeyed previous_number
  previous_small x [] a = omega arith
  previous_small x (r ∷ rs) a =
      let n = previous_number file line trip x rs in
      let h = third_small file r a.0 in
      let i = previous_small x rs a.1 in
      either (both (of_trip file line trip r) (ltb (third file r) x))
      (λ t. either (leb (third file r + 1) n) (λ v. rw (t, v) i) (λ v. rw (t, v) (omega arith)))
      (λ t. rw t i)

-- The trip's records by rising number: their numbers are small, and a record of the trip is one of them.
module _ (file line trip : ℕ) where
  keyed_all : (rs : List Fields) → AllKeyed file rs → All (λ r. third file r < none) rs
  unfolding All AllKeyed
  keyed_all [] a = tt
  keyed_all (r ∷ rs) a = (third_small file r a.0, keyed_all rs a.1)

  upward_small : (rs : List Fields) → AllKeyed file rs → All (λ r. third file r < none) (upward file line trip rs)
  unfolding upward
  upward_small rs a =
      all_rising (third file) (λ r. third file r < none) (select (of_trip file line trip) rs)
      (all_select (of_trip file line trip) (λ r. third file r < none) rs (keyed_all rs a))

  upward_in : (r : Fields) (rs : List Fields) → of_trip file line trip r ≡ true → In r rs → In r (upward file line trip rs)
  unfolding upward
  upward_in r rs h i = in_rising (third file) r (select (of_trip file line trip) rs) (in_select (of_trip file line trip) r rs h i)

  -- where a walk begins, all of them are ahead
  pub ahead_begin : (rs : List Fields) → AllKeyed file rs → (up : Bool)
      → ahead file up (begin up) (upward file line trip rs) ≡ pick up (upward file line trip rs) (backward (upward file line trip rs))
  unfolding ahead
  ahead_begin rs a true =
      select_all (λ r. leb 0 (third file r)) (upward file line trip rs)
      (all_then (λ r. third file r < none) (λ r. leb 0 (third file r) ≡ true) (λ r h. le-leb 0 (third file r) (omega arith)) (upward file line trip rs)
      (upward_small rs a))
  ahead_begin rs a false =
      ap backward
      (select_all (λ r. ltb (third file r) none) (upward file line trip rs)
      (all_then (λ r. third file r < none) (λ r. ltb (third file r) none ≡ true) (λ r h. lt-ltb (third file r) none h) (upward file line trip rs)
      (upward_small rs a)))

-- the end of a file is a place
place_end : (n : ℕ) (s : List ℕ) → LegalFrom n s 0 → Place n s (length s)
place_end n s h =
    let rs = records_in n s in
    let b = ap length (legible n s h.count h.reads).bytes in
    (place_on n s 0 (place_start n s h) rs [] (sym (append-nil rs)) (length s) (omega (arith, b))).place

-- the record at a place is one of the file's
in_place : (file : ℕ) (s : List ℕ) (at : ℕ) → PlaceIn file s at → at < length s → In (record_at file s at) (records_in (fields_of file) s)
in_place file s at p h =
    let w = (next_at (fields_of file) s at p h).rest in
    let e = p.whole ∙ ap (λ (rs : List Fields). p.past ++ rs) w in
    rw e (in_between p.past (record_at file s at) (records_from file s (behind s at)))

-- the record of the trip with third number y stands at `at`
record Arrives (file : ℕ) (s : List ℕ) (line trip y at : ℕ) : Type 0 where
  place : PlaceIn file s at
  within : at < length s
  mine : of_trip file line trip (record_at file s at) ≡ true
  number : third file (record_at file s at) ≡ y
  member : In (record_at file s at) (upward file line trip (records_in (fields_of file) s))

module _ (file : ℕ) (s : List ℕ) (line trip : ℕ) (f : KeyFile file s) (count : length (key_fields file) ≡ 3) (l : line < none) (t : trip < none) where
  abbrev all : List Fields
  all = records_in (fields_of file) s

  abbrev mine : List Fields
  mine = upward file line trip all

  -- where the record with such a key is found, it stands
  arrives_at : (y at : ℕ) → y < none → first_with file (line ∷ trip ∷ y ∷ []) 0 all ≡ Some at → Arrives file s line trip y at
  arrives_at y at h e =
      let k = line ∷ trip ∷ y ∷ [] in
      let r = record_at file s at in
      let small = small_three line trip y l t h in
      let q = found_place (fields_of file) (rank_of file) s (rank k) at f.legal (sym (first_with_lem file k f.keyed small (sym count) 0 all f.keys) ∙ e) in
      let n = (key_here file s at f q.place q.within).numbers in
      let d = same_equal (key_of file r) k (sym (rank_key_lem file r k f.keyed n small (sym count)) ∙ eq-eqb (rank_of file r) (rank k) q.same) in
      let m = key_trip file line trip count r y d in
      record {
        place = q.place;
        within = q.within;
        mine = m.0;
        number = m.1;
        member = upward_in file line trip r all m.0 (in_place file s at q.place q.within);
      }

  -- and one that has it is found
  arrives : (y at : ℕ) → y < none → has file (line ∷ trip ∷ y ∷ []) all ≡ true → at ≡ place_of s (first_with file (line ∷ trip ∷ y ∷ []) 0 all)
      → Arrives file s line trip y at
  unfolding place_of
  arrives y at h e z = go (first_with file (line ∷ trip ∷ y ∷ []) 0 all) refl z
    where
      go : (w : Option ℕ) → first_with file (line ∷ trip ∷ y ∷ []) 0 all ≡ w → at ≡ place_of s w → Arrives file s line trip y at
      go (Some p) d g = rw g (arrives_at y p h d)
      go None d g = clash e (has_none file (line ∷ trip ∷ y ∷ []) 0 all d)

  -- no record is ahead
  ends : (up : Bool) (x at : ℕ) → at ≡ length s → ahead file up x mine ≡ [] → Comes file s up line trip x at
  ends up x at e d = record {
    place = rw e (place_end (fields_of file) s f.legal);
    small = λ h. absurd (omega arith);
    mine = λ h. absurd (omega arith);
    more = λ h. absurd (omega arith);
    done = λ h. d;
  }

  -- one is
  goes : (up : Bool) (x y at : ℕ) → y < none → Arrives file s line trip y at
      → ahead file up x mine ≡ record_at file s at ∷ ahead file up (after up (third file (record_at file s at))) mine → Comes file s up line trip x at
  goes up x y at h a e = record {
    place = a.place;
    small = λ _. omega (arith, a.number);
    mine = λ _. a.mine;
    more = λ _. e;
    done = λ g. absurd (omega (arith, a.within));
  }

  module _ (once : Once file (records_in (fields_of file) s)) (x at : ℕ) where
    -- upward
    least : All (λ r. x ≤ third file r → next_number file line trip x all ≤ third file r) mine
    unfolding upward
    least =
        all_rising (third file) (λ r. x ≤ third file r → next_number file line trip x all ≤ third file r) (select (of_trip file line trip) all)
        (next_least file line trip count x all)

    comes_up : at ≡ place_of s (next_of file line trip x all) → Comes file s true line trip x at
    unfolding ahead place_of
    comes_up z =
        let y = next_number file line trip x all in
        either (eqb y none)
        (λ u.
        let e = eqb-true y none u in
        let past = all_then (λ r. (x ≤ third file r → y ≤ third file r) × (third file r < none)) (λ r. leb x (third file r) ≡ false)
        (λ r g. either (leb x (third file r)) (λ v. absurd (omega (arith, g.0 (leb-true x (third file r) v), g.1))) (λ v. v)) mine
        (all_both (λ r. x ≤ third file r → y ≤ third file r) (λ r. third file r < none) mine least (upward_small file line trip all f.keys)) in
        ends true x at (z ∙ ap (place_of s) (next_nothing file line trip x all e)) (select_none (λ r. leb x (third file r)) mine past))
        (λ u.
        let ne = eqb-false y none u in
        let h = next_has file line trip count x all ne in
        let g : y < none = omega (arith, next_most file line trip x all) in
        let a = arrives y at g h.1 (z ∙ ap (place_of s) (next_found file line trip x all y refl ne)) in
        let q = record_at file s at in
        goes true x y at g a
        (first_up (third file) x q mine (trip_climbing file line trip count all once) a.member (omega (arith, h.0, a.number))
        (all_then (λ r. x ≤ third file r → y ≤ third file r) (λ r. x ≤ third file r → third file q ≤ third file r) (λ r i j. omega (arith, i j, a.number)) mine least)))

    -- downward
    most : All (λ r. third file r < x → third file r + 1 ≤ previous_number file line trip x all) mine
    unfolding upward
    most =
        all_rising (third file) (λ r. third file r < x → third file r + 1 ≤ previous_number file line trip x all) (select (of_trip file line trip) all)
        (previous_most file line trip count x all)

    comes_down : at ≡ place_of s (previous_of file line trip x all) → Comes file s false line trip x at
    unfolding ahead previous_of place_of backward
    comes_down z =
        let y = previous_number file line trip x all in
        either (eqb y 0)
        (λ u.
        let e = eqb-true y 0 u in
        let d : previous_of file line trip x all ≡ None = rw u in
        let past = all_then (λ r. third file r < x → third file r + 1 ≤ y) (λ r. ltb (third file r) x ≡ false)
        (λ r g. either (ltb (third file r) x) (λ v. absurd (omega (arith, g (ltb-true (third file r) x v)))) (λ v. v)) mine most in
        ends false x at (z ∙ ap (place_of s) d) (ap backward (select_none (λ r. ltb (third file r) x) mine past)))
        (λ u.
        let ne = eqb-false y 0 u in
        let d : previous_of file line trip x all ≡ first_with file (line ∷ trip ∷ (y - 1) ∷ []) 0 all = rw u in
        let h = previous_has file line trip count x all ne in
        let g : y - 1 < none = omega (arith, previous_small file line trip count x all f.keys) in
        let a = arrives (y - 1) at g h.1 (z ∙ ap (place_of s) d) in
        let q = record_at file s at in
        goes false x (y - 1) at g a
        (ap backward
        (last_down (third file) x q mine (trip_climbing file line trip count all once) a.member (omega (arith, h.0, a.number))
        (all_then (λ r. third file r < x → third file r + 1 ≤ y) (λ r. third file r < x → third file r ≤ third file q) (λ r i j. omega (arith, i j, a.number)) mine most))
        ∙ backward_append (select (λ r. ltb (third file r) (third file q)) mine) (q ∷ [])))

-- where no two records have one key, a step comes to the first of the trip's records that are ahead; where there is none, to the end
pub comes : (file : ℕ) (s : List ℕ) (line trip : ℕ) → KeyFile file s → length (key_fields file) ≡ 3 → Once file (records_in (fields_of file) s)
    → line < none → trip < none → (up : Bool) (x at : ℕ) → at ≡ place_of s (step_of file up line trip x (records_in (fields_of file) s))
    → Comes file s up line trip x at
unfolding step_of
comes file s line trip f count once l t true x at e = comes_up file s line trip f count l t once x at e
comes file s line trip f count once l t false x at e = comes_down file s line trip f count l t once x at e

-- where no two places hold records with one key, no two records have one key
once_each : (file : ℕ) (rs : List Fields)
    → ((i j : ℕ) → i < j → j < length rs → key_of file (get_or rs i []) ≡ key_of file (get_or rs j []) → ⊥) → Once file rs
unfolding Once
once_each file [] d = tt
once_each file (r ∷ rs) d = (
  either (has file (key_of file r) rs)
      (λ t.
      let h = has_holds file (key_of file r) rs t in
      absurd (d 0 (suc h.0) (omega arith) (omega (arith, h.1)) (sym h.2)))
      (λ t. t),
  once_each file rs (λ i j h g e. d (suc i) (suc j) (omega arith) (omega arith) e),
)

-- in a batch, so it is by document 01's table
pub once_distinct : (b : Batch) (file : ℕ) → Distinct b file → Once file (records_of b file)
once_distinct b file d = once_each file (records_of b file) d
