-- Keys and their ranks: keys of one size have one rank exactly if they are one key, and the order of ranks is that of the first number,
-- then the second, then the third. The records of a trip are those whose rank lies in its stretch.
use Rattle.std.specs.Prelude.{None, Some}
use mathlib.Core.Path.{◌≡◌, refl, sym, ap, ◌∙◌}
use mathlib.Core.Bool.{Bool, true, false}
use mathlib.Core.List.{List, [], ◌∷◌, ◌++◌}
use Prim.Native.Nat.{ℕ, zero, suc, ◌+◌, ◌*◌, ◌≤◌, ◌<◌}
use native.Mathlib.Omega.{arith}
use lib.Dec.{eqb}
use lib.ListN.{length, get_or, drop}
use lib.Seq.{ext_get_or}
use borrow.Author.Tests.{eq-eqb, ne_eqb, eqb-true, eqb-false}
use Rattle.laws.specs.Tests.{pick, both, one_of, either, never, both_left, both_right}
use Rattle.file.specs.Files.{fields_of}
use Rattle.file.specs.Records.{records_in}
use Rattle.file.specs.Format.{Fields, written_record}
use Rattle.field.specs.Values.{is_digits, value}
use Rattle.field.specs.Names.{field}
use Rattle.field.proofs.ValueLaws.{digits_bound}
use Rattle.walk.specs.Walk.{RecordAt}
use Rattle.walk.proofs.WalkLaws.{count_left, some_left}
use Rattle.keys.specs.Keys.{key_fields, numbers, key_of, same, has, first_with, of_trip, third, none}
use Rattle.keys.specs.Ranks.{rank, rank_of, Numbers, AllKeyed, Small, IsKeyed, KeyAt}
use Rattle.keys.proofs.TableLaws.{one_of_lem, key_fields_lem}

-- a key has a number for each key field
size_numbers : (fs : List ℕ) (r : Fields) → length (numbers fs r) ≡ length fs
unfolding numbers
size_numbers [] r = refl
size_numbers (f ∷ fs) r = ap suc (size_numbers fs r)

pub key_size : (file : ℕ) (r : Fields) → length (key_of file r) ≡ length (key_fields file)
key_size file r = size_numbers (key_fields file) r

-- a number of 1-9 digits is below a thousand million
pub key_small : (fs : List ℕ) (r : Fields) → Numbers fs r → Small (numbers fs r)
unfolding numbers Numbers Small
key_small [] r n = tt
key_small (f ∷ fs) r n = (digits_bound 1 9 (field f r) n.0, key_small fs r n.1)

-- the same numbers are one list
pub same_self : (j : List ℕ) → same j j ≡ true
unfolding same
same_self [] = refl
same_self (a ∷ j) = rw (eq-eqb a a refl, same_self j)

pub same_equal : (j k : List ℕ) → same j k ≡ true → j ≡ k
unfolding same
same_equal [] [] e = refl
same_equal [] (b ∷ k) e = never e
same_equal (a ∷ j) [] e = never e
same_equal (a ∷ j) (b ∷ k) e = rw (eqb-true a b (both_left (eqb a b) (same j k) e), same_equal j k (both_right (eqb a b) (same j k) e))

-- a test that tells whether two numbers are equal is their `eqb`
test_equal : (x y : ℕ) (t : Bool) → (x ≡ y → t ≡ true) → (t ≡ true → x ≡ y) → eqb x y ≡ t
test_equal x y true p q = eq-eqb x y (q refl)
test_equal x y false p q = ne_eqb x y (λ e. never (p e))

-- a rank by its numbers: by the only one, or by three, where one that is missing counts as 0
short : (j : List ℕ) → length j ≡ 1 → (rank j ≡ get_or j 0 0 * none) × (get_or j 1 0 ≡ 0) × (get_or j 2 0 ≡ 0)
unfolding rank
short [] e = absurd (omega arith)
short (a ∷ []) e = (refl, refl, refl)
short (a ∷ b ∷ j) e = absurd (omega arith)

long : (j : List ℕ) → (length j ≡ 1 → ⊥) → rank j ≡ (get_or j 0 0 * none + get_or j 1 0) * none + get_or j 2 0
unfolding rank
long [] n = refl
long (a ∷ []) n = absurd (n refl)
long (a ∷ b ∷ []) n = omega arith
long (a ∷ b ∷ c ∷ more) n = refl

small_at : (j : List ℕ) → Small j → (i : ℕ) → get_or j i 0 < none
unfolding Small
small_at [] p i = omega arith
small_at (a ∷ j) p zero = p.0
small_at (a ∷ j) p (suc i) = small_at j p.1 i

-- two keys of one size, whose numbers are small: both have one number, or neither does
module _ (j k : List ℕ) (p : Small j) (q : Small k) (l : length j ≡ length k) where
  by_size : {P : Type 0} → ((rank j ≡ get_or j 0 0 * none) × (get_or j 1 0 ≡ 0) × (get_or j 2 0 ≡ 0) → (rank k ≡ get_or k 0 0 * none) × (get_or k 1 0 ≡ 0) × (get_or k 2 0 ≡ 0) → P)
      → (rank j ≡ (get_or j 0 0 * none + get_or j 1 0) * none + get_or j 2 0 → rank k ≡ (get_or k 0 0 * none + get_or k 1 0) * none + get_or k 2 0 → P) → P
  by_size f g =
      either (eqb (length j) 1)
      (λ t. let e = eqb-true (length j) 1 t in f (short j e) (short k (omega arith)))
      (λ t. let n = eqb-false (length j) 1 t in g (long j n) (long k (λ z. omega arith)))

  -- the order of ranks is that of the first numbers, then the second, then the third
  pub rank_first : get_or j 0 0 < get_or k 0 0 → rank j < rank k
  rank_first h = by_size (λ a b. omega arith) (λ a b. omega (arith, small_at j p 1, small_at j p 2))

  pub rank_second : get_or j 0 0 ≡ get_or k 0 0 → get_or j 1 0 < get_or k 1 0 → rank j < rank k
  rank_second e h = by_size (λ a b. omega arith) (λ a b. omega (arith, small_at j p 2))

  pub rank_third : get_or j 0 0 ≡ get_or k 0 0 → get_or j 1 0 ≡ get_or k 1 0 → get_or j 2 0 < get_or k 2 0 → rank j < rank k
  rank_third e f h = by_size (λ a b. omega arith) (λ a b. omega arith)

  -- keys of one rank are one key
  pub rank_one : length j ≤ 3 → rank j ≡ rank k → j ≡ k
  rank_one m e =
      let c = small_at j p 1 in
      let d = small_at k q 1 in
      let f = small_at j p 2 in
      let g = small_at k q 2 in
      let x : get_or j 0 0 ≡ get_or k 0 0 = by_size (λ a b. omega arith) (λ a b. omega (arith, c, d, f, g)) in
      let y : get_or j 1 0 ≡ get_or k 1 0 = by_size (λ a b. omega arith) (λ a b. omega (arith, c, d, f, g)) in
      let z : get_or j 2 0 ≡ get_or k 2 0 = by_size (λ a b. omega arith) (λ a b. omega (arith, c, d, f, g)) in
      ext_get_or 0 j k l (λ i h. one_of_lem (λ (n : ℕ). get_or j n 0 ≡ get_or k n 0) 0 3 (x, (y, (z, tt))) i (omega arith) (omega arith))

  pub rank_same : length j ≤ 3 → eqb (rank j) (rank k) ≡ same j k
  rank_same m = test_equal (rank j) (rank k) (same j k) (λ e. rw (rank_one m e) (same_self k)) (λ e. ap rank (same_equal j k e))

-- a record has the key k exactly if its rank is k's
pub rank_key_lem : (file : ℕ) (r : Fields) (k : List ℕ) → IsKeyed file → Numbers (key_fields file) r → Small k → length k ≡ length (key_fields file)
    → eqb (rank_of file r) (rank k) ≡ same (key_of file r) k
rank_key_lem file r k f n q e =
    rank_same (key_of file r) k (key_small (key_fields file) r n) q (key_size file r ∙ sym e) (omega (arith, key_size file r, (key_fields_lem file f).1))

-- each record has a key: so has the first, and so have the last ones
pub keyed_head : (file : ℕ) (r : Fields) (rs : List Fields) → AllKeyed file (r ∷ rs) → Numbers (key_fields file) r
unfolding AllKeyed
keyed_head file r rs a = a.0

pub keyed_rest : (file : ℕ) (r : Fields) (rs : List Fields) → AllKeyed file (r ∷ rs) → AllKeyed file rs
unfolding AllKeyed
keyed_rest file r rs a = a.1

pub keyed_tail : (file : ℕ) (a b : List Fields) → AllKeyed file (a ++ b) → AllKeyed file b
unfolding AllKeyed
keyed_tail file [] b h = h
keyed_tail file (r ∷ a) b h = keyed_tail file a b h.1

-- where each record from `at` on has a key, so has the one that starts there
pub keyed_at : (file : ℕ) (s : List ℕ) (at : ℕ) → IsKeyed file → RecordAt (fields_of file) s at → AllKeyed file (records_in (fields_of file) (drop at s))
    → KeyAt file s at
keyed_at file s at k h a =
    let c = some_left (fields_of file) s at h.legal h.more in
    record { keyed = k; here = h; numbers = go (records_in (fields_of file) (drop at s)) (omega (arith, count_left (fields_of file) s at h.legal)) a }
  where
    go : (rs : List Fields) → 1 ≤ length rs → AllKeyed file rs → Numbers (key_fields file) (get_or rs 0 [])
    go [] l b = absurd (omega arith)
    go (r ∷ rs) l b = keyed_head file r rs b

-- the third number of a key, like each of them, is below a thousand million
pub third_small : (file : ℕ) (r : Fields) → Numbers (key_fields file) r → third file r < none
unfolding third
third_small file r n = small_at (key_of file r) (key_small (key_fields file) r n) 2

-- The records of a trip, in a file whose keys have three numbers: their ranks are those from the trip's first on, in the order of the
-- third number.
module _ (file line trip : ℕ) (r : Fields) (three : key_fields file ≡ 1 ∷ 2 ∷ 3 ∷ []) where
  trip_same : of_trip file line trip r ≡ both (eqb (value (field 1 r)) line) (both (eqb (value (field 2 r)) trip) true)
  unfolding of_trip numbers same
  trip_same = rw three

  trip_rank : rank_of file r ≡ (value (field 1 r) * none + value (field 2 r)) * none + third file r
  unfolding rank third numbers
  trip_rank = rw three

  trip_number : Numbers (key_fields file) r → is_digits 1 9 (field 2 r) ≡ true
  unfolding Numbers
  trip_number n =
      let m : Numbers (1 ∷ 2 ∷ 3 ∷ []) r = rw three at n in
      m.1.0

  pub trip_of_lem : of_trip file line trip r ≡ true → rank_of file r ≡ (line * none + trip) * none + third file r
  trip_of_lem h =
      let e = sym trip_same ∙ h in
      let a = eqb-true (value (field 1 r)) line (both_left (eqb (value (field 1 r)) line) (both (eqb (value (field 2 r)) trip) true) e) in
      let f = both_right (eqb (value (field 1 r)) line) (both (eqb (value (field 2 r)) trip) true) e in
      let b = eqb-true (value (field 2 r)) trip (both_left (eqb (value (field 2 r)) trip) true f) in
      rw (← a, ← b) trip_rank

  pub of_trip_lem : Numbers (key_fields file) r → trip < none → (line * none + trip) * none ≤ rank_of file r
      → rank_of file r < (line * none + trip) * none + none → of_trip file line trip r ≡ true
  of_trip_lem n h low high =
      let y = digits_bound 1 9 (field 2 r) (trip_number n) in
      let a : value (field 1 r) ≡ line = omega (arith, trip_rank, third_small file r n) in
      let b : value (field 2 r) ≡ trip = omega (arith, trip_rank, third_small file r n) in
      trip_same ∙ rw (eq-eqb (value (field 1 r)) line a, eq-eqb (value (field 2 r)) trip b)

-- a record is found exactly if one has the key
pub has_found : (file : ℕ) (k : List ℕ) (at : ℕ) (rs : List Fields) (p : ℕ) → first_with file k at rs ≡ Some p → has file k rs ≡ true
unfolding has first_with
has_found file k at [] p e = let z : ◌≡◌ {A = ℕ} 0 1 = cc in absurd (omega arith)
has_found file k at (r ∷ rs) p e = go (same (key_of file r) k) e (λ z. has_found file k (at + length (written_record r)) rs p z)
  where
    go : (t : Bool) → pick t (Some at) (first_with file k (at + length (written_record r)) rs) ≡ Some p
        → (first_with file k (at + length (written_record r)) rs ≡ Some p → has file k rs ≡ true) → one_of t (has file k rs) ≡ true
    go true z f = refl
    go false z f = f z

pub has_none : (file : ℕ) (k : List ℕ) (at : ℕ) (rs : List Fields) → first_with file k at rs ≡ None → has file k rs ≡ false
unfolding has first_with
has_none file k at [] e = refl
has_none file k at (r ∷ rs) e = go (same (key_of file r) k) e (λ z. has_none file k (at + length (written_record r)) rs z)
  where
    go : (t : Bool) → pick t (Some at) (first_with file k (at + length (written_record r)) rs) ≡ None
        → (first_with file k (at + length (written_record r)) rs ≡ None → has file k rs ≡ false) → one_of t (has file k rs) ≡ false
    go true z f = let y : ◌≡◌ {A = ℕ} 0 1 = cc in absurd (omega arith)
    go false z f = f z

-- one of some records, or of others behind them
pub has_append : (file : ℕ) (k : List ℕ) (a b : List Fields) → has file k (a ++ b) ≡ one_of (has file k a) (has file k b)
unfolding has
has_append file k [] b = refl
has_append file k (r ∷ a) b = go (same (key_of file r) k) (has_append file k a b)
  where
    go : (t : Bool) → has file k (a ++ b) ≡ one_of (has file k a) (has file k b) → one_of t (has file k (a ++ b)) ≡ one_of (one_of t (has file k a)) (has file k b)
    go true e = refl
    go false e = e
