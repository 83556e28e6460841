-- Laws of lists of records: those that pass a test, the order by number, the same backward, and what each of these keeps.
use mathlib.Core.Path.{◌≡◌, refl, sym, ap, ◌∙◌}
use mathlib.Core.Bool.{Bool, true, false}
use mathlib.Core.List.{List, [], ◌∷◌, ◌++◌, append_assoc, append-nil}
use mathlib.Core.Logic.{◌⊎◌, inl, inr}
use Prim.Native.Nat.{ℕ, suc, ◌+◌, ◌≤◌, ◌<◌, ◌%◌}
use native.Mathlib.Omega.{arith}
use lib.Dec.{eqb, leb}
use lib.ListN.{length, length-append}
use borrow.Author.Tests.{eq-eqb, ne_eqb, eqb-true, eqb-false, leb-true, leb-false}
use Rattle.laws.specs.Tests.{pick, both, one_of, either, clash}
use Rattle.trail.specs.Lists.{select, first_or, some, tally, backward, each, insert, rising, travel}

-- a choice of two numbers that one more stands before, in either order
count_swap : (p q : Bool) (n : ℕ) → pick p (suc (pick q (suc n) n)) (pick q (suc n) n) ≡ pick q (suc (pick p (suc n) n)) (pick p (suc n) n)
count_swap true true n = refl
count_swap true false n = refl
count_swap false true n = refl
count_swap false false n = refl

one_swap : (p q r : Bool) → one_of p (one_of q r) ≡ one_of q (one_of p r)
one_swap true true r = refl
one_swap true false r = refl
one_swap false true r = refl
one_swap false false r = refl

module _ {A : Type 0} where
  -- each of them keeps this
  unfoldable pub All : (A → Type 0) → List A → Type 0
  All keeps [] = Unit
  All keeps (a ∷ rest) = keeps a × All keeps rest

  -- this is one of them
  unfoldable pub In : A → List A → Type 0
  In x [] = ⊥
  In x (a ∷ rest) = (a ≡ x) ⊎ In x rest

  -- what each keeps, one keeps
  pub all_in : (keeps : A → Type 0) (x : A) (l : List A) → All keeps l → In x l → keeps x
  unfolding All In
  all_in keeps x [] h i = absurd i
  all_in keeps x (a ∷ rest) h (inl e) = rw (← e) h.0
  all_in keeps x (a ∷ rest) h (inr i) = all_in keeps x rest h.1 i

  -- what follows from what each keeps, each keeps
  pub all_then : (keeps then : A → Type 0) → ((a : A) → keeps a → then a) → (l : List A) → All keeps l → All then l
  unfolding All
  all_then keeps then f [] h = tt
  all_then keeps then f (a ∷ rest) h = (f a h.0, all_then keeps then f rest h.1)

  -- what each keeps of two things, each keeps together
  pub all_both : (keeps more : A → Type 0) (l : List A) → All keeps l → All more l → All (λ a. keeps a × more a) l
  unfolding All
  all_both keeps more [] h i = tt
  all_both keeps more (a ∷ rest) h i = ((h.0, i.0), all_both keeps more rest h.1 i.1)

  -- what stands between others is one of them
  pub in_between : (before : List A) (x : A) (rest : List A) → In x (before ++ (x ∷ rest))
  unfolding In
  in_between [] x rest = inl refl
  in_between (a ∷ before) x rest = inr (in_between before x rest)

  -- where each passes the test, all are selected
  pub select_all : (test : A → Bool) (l : List A) → All (λ a. test a ≡ true) l → select test l ≡ l
  unfolding All select
  select_all test [] h = refl
  select_all test (a ∷ rest) h = rw h.0 (ap (λ (l : List A). a ∷ l) (select_all test rest h.1))

  -- where each fails it, none is
  pub select_none : (test : A → Bool) (l : List A) → All (λ a. test a ≡ false) l → select test l ≡ []
  unfolding All select
  select_none test [] h = refl
  select_none test (a ∷ rest) h = rw h.0 (select_none test rest h.1)

  -- tests that say the same of each select the same
  pub select_same : (p q : A → Bool) → ((a : A) → p a ≡ q a) → (l : List A) → select p l ≡ select q l
  unfolding select
  select_same p q h [] = refl
  select_same p q h (a ∷ rest) = rw (h a, select_same p q h rest)

  -- one selection from another is one by both tests
  pub select_twice : (p q : A → Bool) (l : List A) → select p (select q l) ≡ select (λ a. both (q a) (p a)) l
  unfolding select
  select_twice p q [] = refl
  select_twice p q (a ∷ rest) =
      either (q a)
      (λ t. rw (t, select_twice p q rest))
      (λ t. rw (t, select_twice p q rest))

  -- each that is selected passes the test
  pub select_pass : (test : A → Bool) (l : List A) → All (λ a. test a ≡ true) (select test l)
  unfolding All select
  select_pass test [] = tt
  select_pass test (a ∷ rest) =
      either (test a)
      (λ t. rw t (t, select_pass test rest))
      (λ t. rw t (select_pass test rest))

  -- and keeps what it kept
  pub all_select : (test : A → Bool) (keeps : A → Type 0) (l : List A) → All keeps l → All keeps (select test l)
  unfolding All select
  all_select test keeps [] h = tt
  all_select test keeps (a ∷ rest) h =
      either (test a)
      (λ t. rw t (h.0, all_select test keeps rest h.1))
      (λ t. rw t (all_select test keeps rest h.1))

  -- one that passes the test is selected
  pub in_select : (test : A → Bool) (x : A) (l : List A) → test x ≡ true → In x l → In x (select test l)
  unfolding In select
  in_select test x [] p i = absurd i
  in_select test x (a ∷ rest) p (inl e) =
      let t : test a ≡ true = rw e p in
      rw t (inl e)
  in_select test x (a ∷ rest) p (inr i) =
      either (test a)
      (λ t. rw t (inr (in_select test x rest p i)))
      (λ t. rw t (in_select test x rest p i))

  -- the first that passes a test is the first of a selection that holds all that pass it
  pub first_select : (other : A) (p q : A → Bool) → ((a : A) → p a ≡ true → q a ≡ true) → (l : List A)
      → first_or other p (select q l) ≡ first_or other p l
  unfolding first_or select
  first_select other p q h [] = refl
  first_select other p q h (a ∷ rest) =
      either (q a)
      (λ t. rw (t, first_select other p q h rest))
      (λ t.
      either (p a)
      (λ u. clash (h a u) t)
      (λ u. rw (t, u) (first_select other p q h rest)))

  -- two lists backward: the second, then the first
  pub backward_append : (l m : List A) → backward (l ++ m) ≡ backward m ++ backward l
  unfolding backward
  backward_append [] m = sym (append-nil (backward m))
  backward_append (a ∷ l) m = rw (backward_append l m) (append_assoc (backward m) (backward l) (a ∷ []))

  -- twice backward is forward
  pub backward_twice : (l : List A) → backward (backward l) ≡ l
  unfolding backward
  backward_twice [] = refl
  backward_twice (a ∷ rest) = backward_append (backward rest) (a ∷ []) ∙ ap (λ (l : List A). a ∷ l) (backward_twice rest)

  -- how many pass a test, of two lists
  tally_append : (test : A → Bool) (l m : List A) → tally test (l ++ m) ≡ tally test l + tally test m
  unfolding tally
  tally_append test [] m = omega arith
  tally_append test (a ∷ l) m =
      either (test a)
      (λ t. rw t (omega (arith, tally_append test l m)))
      (λ t. rw t (tally_append test l m))

  -- backward as many pass it
  pub tally_backward : (test : A → Bool) (l : List A) → tally test (backward l) ≡ tally test l
  unfolding tally backward
  tally_backward test [] = refl
  tally_backward test (a ∷ rest) =
      let e = tally_append test (backward rest) (a ∷ []) in
      either (test a)
      (λ t.
      let f : tally test (a ∷ []) ≡ 1 = rw t in
      rw t (omega (arith, e, f, tally_backward test rest)))
      (λ t.
      let f : tally test (a ∷ []) ≡ 0 = rw t in
      rw t (omega (arith, e, f, tally_backward test rest)))

  -- and as many stand there
  pub length_backward : (l : List A) → length (backward l) ≡ length l
  unfolding backward
  length_backward [] = refl
  length_backward (a ∷ rest) = omega (arith, length-append (backward rest) (a ∷ []), length_backward rest)

module _ {A : Type 0} (number : A → ℕ) where
  -- no number is below n
  abbrev pub From : ℕ → List A → Type 0
  From n l = All (λ a. n ≤ number a) l

  -- the numbers never fall
  unfoldable pub Sorted : List A → Type 0
  Sorted [] = Unit
  Sorted (a ∷ rest) = From (number a) rest × Sorted rest

  -- every number is above n
  abbrev pub Beyond : ℕ → List A → Type 0
  Beyond n l = All (λ a. n < number a) l

  -- the numbers strictly rise
  unfoldable pub Climbing : List A → Type 0
  Climbing [] = Unit
  Climbing (a ∷ rest) = Beyond (number a) rest × Climbing rest

  -- no number is n
  abbrev pub Unlike : ℕ → List A → Type 0
  Unlike n l = All (λ a. number a ≡ n → ⊥) l

  -- the numbers are pairwise different
  unfoldable pub Apart : List A → Type 0
  Apart [] = Unit
  Apart (a ∷ rest) = Unlike (number a) rest × Apart rest

  -- one more in its place: each keeps what it kept
  all_insert : (keeps : A → Type 0) (a : A) (l : List A) → keeps a → All keeps l → All keeps (insert number a l)
  unfolding All insert
  all_insert keeps a [] p h = (p, tt)
  all_insert keeps a (b ∷ bs) p h =
      either (leb (number a) (number b))
      (λ t. rw t (p, h))
      (λ t. rw t (h.0, all_insert keeps a bs p h.1))

  in_insert_self : (a : A) (l : List A) → In a (insert number a l)
  unfolding In insert
  in_insert_self a [] = inl refl
  in_insert_self a (b ∷ bs) =
      either (leb (number a) (number b))
      (λ t. rw t (inl refl))
      (λ t. rw t (inr (in_insert_self a bs)))

  in_insert : (x a : A) (l : List A) → In x l → In x (insert number a l)
  unfolding In insert
  in_insert x a [] i = absurd i
  in_insert x a (b ∷ bs) i =
      either (leb (number a) (number b))
      (λ t. rw t (inr i))
      (λ t. rw t (go i (in_insert x a bs)))
    where
      go : In x (b ∷ bs) → (In x bs → In x (insert number a bs)) → In x (b ∷ insert number a bs)
      go (inl e) f = inl e
      go (inr j) f = inr (f j)

  -- by rising number each keeps what it kept
  pub all_rising : (keeps : A → Type 0) (l : List A) → All keeps l → All keeps (rising number l)
  unfolding All rising
  all_rising keeps [] h = tt
  all_rising keeps (a ∷ rest) h = all_insert keeps a (rising number rest) h.0 (all_rising keeps rest h.1)

  -- and stands there
  pub in_rising : (x : A) (l : List A) → In x l → In x (rising number l)
  unfolding In rising
  in_rising x [] i = absurd i
  in_rising x (a ∷ rest) (inl e) = rw (← e) (in_insert_self a (rising number rest))
  in_rising x (a ∷ rest) (inr i) = in_insert x a (rising number rest) (in_rising x rest i)

  -- one more among numbers that never fall
  insert_sorted : (a : A) (l : List A) → Sorted l → Sorted (insert number a l)
  unfolding All Sorted insert
  insert_sorted a [] s = (tt, tt)
  insert_sorted a (b ∷ bs) s =
      either (leb (number a) (number b))
      (λ t.
      let h = leb-true (number a) (number b) t in
      rw t ((h, all_then (λ c. number b ≤ number c) (λ c. number a ≤ number c) (λ c g. omega arith) bs s.0), s))
      (λ t.
      let h = leb-false (number a) (number b) t in
      rw t (all_insert (λ c. number b ≤ number c) a bs (omega arith) s.0, insert_sorted a bs s.1))

  -- by rising number the numbers never fall
  pub rising_sorted : (l : List A) → Sorted (rising number l)
  unfolding Sorted rising
  rising_sorted [] = tt
  rising_sorted (a ∷ rest) = insert_sorted a (rising number rest) (rising_sorted rest)

  -- one more among numbers that strictly rise, and unlike each
  insert_climbing : (a : A) (l : List A) → Unlike (number a) l → Climbing l → Climbing (insert number a l)
  unfolding All Climbing insert
  insert_climbing a [] u s = (tt, tt)
  insert_climbing a (b ∷ bs) u s =
      either (leb (number a) (number b))
      (λ t.
      let h = leb-true (number a) (number b) t in
      let n = u.0 in
      let g : number a < number b = omega arith in
      rw t ((g, all_then (λ c. number b < number c) (λ c. number a < number c) (λ c g. omega arith) bs s.0), s))
      (λ t.
      let h = leb-false (number a) (number b) t in
      rw t (all_insert (λ c. number b < number c) a bs h s.0, insert_climbing a bs u.1 s.1))

  -- where they are pairwise different, they strictly rise
  pub rising_climbing : (l : List A) → Apart l → Climbing (rising number l)
  unfolding Climbing Apart rising
  rising_climbing [] u = tt
  rising_climbing (a ∷ rest) u =
      insert_climbing a (rising number rest) (all_rising (λ b. number b ≡ number a → ⊥) rest u.0) (rising_climbing rest u.1)

  -- one more in its place counts as one more in front
  tally_insert : (test : A → Bool) (a : A) (l : List A) → tally test (insert number a l) ≡ tally test (a ∷ l)
  unfolding tally insert
  tally_insert test a [] = refl
  tally_insert test a (b ∷ bs) =
      either (leb (number a) (number b))
      (λ t. rw t)
      (λ t. rw (t, tally_insert test a bs) (count_swap (test b) (test a) (tally test bs)))

  -- by rising number as many pass any test
  pub tally_rising : (test : A → Bool) (l : List A) → tally test (rising number l) ≡ tally test l
  unfolding tally rising
  tally_rising test [] = refl
  tally_rising test (a ∷ rest) = tally_insert test a (rising number rest) ∙ rw (tally_rising test rest)

  -- the travel order holds each of the records once: as many pass any test
  pub tally_travel : (test : A → Bool) (trip : ℕ) (l : List A) → tally test (travel number trip l) ≡ tally test l
  unfolding travel
  tally_travel test trip l =
      either (eqb (trip % 2) 1)
      (λ t. rw t (tally_rising test l))
      (λ t. rw t (tally_backward test (rising number l) ∙ tally_rising test l))

  length_insert : (a : A) (l : List A) → length (insert number a l) ≡ suc (length l)
  unfolding insert
  length_insert a [] = refl
  length_insert a (b ∷ bs) =
      either (leb (number a) (number b))
      (λ t. rw t)
      (λ t. rw t (ap suc (length_insert a bs)))

  -- by rising number as many stand there
  pub length_rising : (l : List A) → length (rising number l) ≡ length l
  unfolding rising
  length_rising [] = refl
  length_rising (a ∷ rest) = length_insert a (rising number rest) ∙ ap suc (length_rising rest)

  -- and so in travel order
  pub length_travel : (trip : ℕ) (l : List A) → length (travel number trip l) ≡ length l
  unfolding travel
  length_travel trip l =
      either (eqb (trip % 2) 1)
      (λ t. rw t (length_rising l))
      (λ t. rw t (length_backward (rising number l) ∙ length_rising l))

  some_insert : (test : A → Bool) (a : A) (l : List A) → some test (insert number a l) ≡ some test (a ∷ l)
  unfolding some insert
  some_insert test a [] = refl
  some_insert test a (b ∷ bs) =
      either (leb (number a) (number b))
      (λ t. rw t)
      (λ t. rw (t, some_insert test a bs) (one_swap (test b) (test a) (some test bs)))

  -- a test holds for one of them by rising number exactly if it does for one of them
  pub some_rising : (test : A → Bool) (l : List A) → some test (rising number l) ≡ some test l
  unfolding some rising
  some_rising test [] = refl
  some_rising test (a ∷ rest) = some_insert test a (rising number rest) ∙ rw (some_rising test rest)

  -- the next trip number has the other parity, and reverses the travel order
  pub travel_turns : (trip : ℕ) (l : List A) → travel number (suc trip) l ≡ backward (travel number trip l)
  unfolding travel
  travel_turns trip l =
      either (eqb (trip % 2) 1)
      (λ t.
      let e = eqb-true (trip % 2) 1 t in
      let u : eqb (suc trip % 2) 1 ≡ false = ne_eqb (suc trip % 2) 1 (λ z. omega arith) in
      rw (t, u))
      (λ t.
      let e = eqb-false (trip % 2) 1 t in
      let z : suc trip % 2 ≡ 1 = omega arith in
      rw (t, eq-eqb (suc trip % 2) 1 z) (sym (backward_twice (rising number l))))

module _ {A B : Type 0} (f : A → B) where
  -- each as f has it, of those of which this passes a test
  pub each_select : (test : B → Bool) (l : List A) → each f (select (λ a. test (f a)) l) ≡ select test (each f l)
  unfolding each select
  each_select test [] = refl
  each_select test (a ∷ rest) =
      either (test (f a))
      (λ t. rw t (ap (λ (l : List B). f a ∷ l) (each_select test rest)))
      (λ t. rw t (each_select test rest))

  each_append : (l m : List A) → each f (l ++ m) ≡ each f l ++ each f m
  unfolding each
  each_append [] m = refl
  each_append (a ∷ l) m = ap (λ (k : List B). f a ∷ k) (each_append l m)

  -- backward
  pub each_backward : (l : List A) → each f (backward l) ≡ backward (each f l)
  unfolding each backward
  each_backward [] = refl
  each_backward (a ∷ rest) = each_append (backward rest) (a ∷ []) ∙ rw (each_backward rest)

  -- they are as many
  pub each_length : (l : List A) → length (each f l) ≡ length l
  unfolding each
  each_length [] = refl
  each_length (a ∷ rest) = ap suc (each_length rest)

  each_insert : (number : B → ℕ) (a : A) (l : List A) → each f (insert (λ c. number (f c)) a l) ≡ insert number (f a) (each f l)
  unfolding each insert
  each_insert number a [] = refl
  each_insert number a (b ∷ bs) =
      either (leb (number (f a)) (number (f b)))
      (λ t. rw t)
      (λ t. rw t (ap (λ (l : List B). f b ∷ l) (each_insert number a bs)))

  -- by rising number: by that of what f makes of each
  pub each_rising : (number : B → ℕ) (l : List A) → each f (rising (λ a. number (f a)) l) ≡ rising number (each f l)
  unfolding each rising
  each_rising number [] = refl
  each_rising number (a ∷ rest) = each_insert number a (rising (λ c. number (f c)) rest) ∙ ap (insert number (f a)) (each_rising number rest)

  -- and so in travel order
  pub each_travel : (number : B → ℕ) (trip : ℕ) (l : List A) → each f (travel (λ a. number (f a)) trip l) ≡ travel number trip (each f l)
  unfolding travel
  each_travel number trip l =
      either (eqb (trip % 2) 1)
      (λ t. rw t (each_rising number l))
      (λ t. rw t (each_backward (rising (λ a. number (f a)) l) ∙ ap backward (each_rising number l)))

module _ {A B C : Type 0} (f : B → C) (g : A → B) where
  -- each as g has it and then as f does
  pub each_twice : (l : List A) → each f (each g l) ≡ each (λ a. f (g a)) l
  unfolding each
  each_twice [] = refl
  each_twice (a ∷ rest) = ap (λ (l : List C). f (g a) ∷ l) (each_twice rest)
