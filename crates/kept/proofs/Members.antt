-- Members of a list: x is one if it stands at some place. What a selection, an order, the backward list and the list of what f makes of each have as
-- members, each way.
use mathlib.Core.Path.{◌≡◌, refl, ap, ◌∙◌}
use mathlib.Core.Bool.{Bool, true}
use mathlib.Core.List.{List, [], ◌∷◌, ◌++◌}
use mathlib.Core.Logic.{◌⊎◌, inl, inr}
use Prim.Native.Nat.{ℕ, zero, suc, ◌<◌, ◌%◌}
use native.Mathlib.Omega.{arith}
use lib.Dec.{eqb, leb}
use lib.ListN.{length, get_or}
use Rattle.laws.specs.Tests.{one_of, either, never}
use Rattle.link.proofs.HasLaws.{one_left, one_right}
use Rattle.trail.specs.Lists.{select, some, backward, each, insert, rising, travel}
use Rattle.trail.proofs.ListLaws as list

module _ {A : Type 0} (d : A) where
  -- x stands in the list, d being what stands behind its end
  abbrev pub In : List A → A → Type 0
  In l x = (i : ℕ) × (i < length l) × (get_or l i d ≡ x)

  -- nothing stands in the empty list
  pub in_nil : {P : Type 0} (x : A) → In [] x → P
  in_nil x m = absurd (omega (arith, m.1))

  -- the first does
  pub in_first : (x : A) (l : List A) → In (x ∷ l) x
  in_first x l = (0, omega arith, refl)

  -- and so does each that stands behind it
  pub in_later : (a x : A) (l : List A) → In l x → In (a ∷ l) x
  in_later a x l m = (suc m.0, omega (arith, m.1), m.2)

  -- so one of the two
  pub in_cons : (a x : A) (l : List A) → (a ≡ x) ⊎ In l x → In (a ∷ l) x
  in_cons a x l (inl e) = (0, omega arith, e)
  in_cons a x l (inr m) = in_later a x l m

  -- and no other
  pub cons_in : (a x : A) (l : List A) → In (a ∷ l) x → (a ≡ x) ⊎ In l x
  cons_in a x l (zero, h, e) = inl e
  cons_in a x l (suc i, h, e) = inr (i, omega arith, e)

  -- it is the same by places and one after another
  pub in_list : (x : A) (l : List A) → In l x → list.In x l
  unfolding list.In
  in_list x [] m = in_nil x m
  in_list x (a ∷ l) m = go (cons_in a x l m) (in_list x l)
    where
      go : (a ≡ x) ⊎ In l x → (In l x → list.In x l) → (a ≡ x) ⊎ list.In x l
      go (inl e) f = inl e
      go (inr n) f = inr (f n)

  pub list_in : (x : A) (l : List A) → list.In x l → In l x
  unfolding list.In
  list_in x [] m = absurd m
  list_in x (a ∷ l) (inl e) = in_cons a x l (inl e)
  list_in x (a ∷ l) (inr m) = in_later a x l (list_in x l m)

  -- what each keeps, a member keeps
  pub all_member : (keeps : A → Type 0) (l : List A) → list.All keeps l → (x : A) → In l x → keeps x
  all_member keeps l h x m = list.all_in keeps x l h (in_list x l m)

  -- and what every member keeps, each keeps
  pub member_all : (keeps : A → Type 0) (l : List A) → ((x : A) → In l x → keeps x) → list.All keeps l
  unfolding list.All
  member_all keeps [] f = tt
  member_all keeps (a ∷ l) f = (f a (in_first a l), member_all keeps l (λ x m. f x (in_later a x l m)))

  -- those that pass a test are selected
  pub in_select : (test : A → Bool) (x : A) (l : List A) → test x ≡ true → In l x → In (select test l) x
  in_select test x l t m = list_in x (select test l) (list.in_select test x l t (in_list x l m))

  -- one that is selected stands in the list
  pub select_in : (test : A → Bool) (x : A) (l : List A) → In (select test l) x → In l x
  select_in test x l m =
      all_member (λ a. In l a) (select test l) (list.all_select test (λ a. In l a) l (member_all (λ a. In l a) l (λ a n. n))) x m

  -- and passes the test
  pub select_test : (test : A → Bool) (x : A) (l : List A) → In (select test l) x → test x ≡ true
  select_test test x l m = all_member (λ a. test a ≡ true) (select test l) (list.select_pass test l) x m

  -- a test holds for one of them exactly if it does for a member
  pub some_in : (test : A → Bool) (l : List A) → some test l ≡ true → (x : A) × In l x × (test x ≡ true)
  unfolding some
  some_in test [] e = never e
  some_in test (a ∷ l) e =
      either (test a)
      (λ t. (a, in_first a l, t))
      (λ t. let h = some_in test l (rw t at e) in (h.0, in_later a h.0 l h.1, h.2))

  pub in_some : (test : A → Bool) (x : A) (l : List A) → In l x → test x ≡ true → some test l ≡ true
  unfolding some
  in_some test x [] m t = in_nil x m
  in_some test x (a ∷ l) m t = go (cons_in a x l m) (λ n. in_some test x l n t)
    where
      go : (a ≡ x) ⊎ In l x → (In l x → some test l ≡ true) → one_of (test a) (some test l) ≡ true
      go (inl e) f = one_left (test a) (some test l) (ap test e ∙ t)
      go (inr n) f = one_right (test a) (some test l) (f n)

  -- the members of two lists together are those of the first
  pub in_before : (x : A) (l m : List A) → In l x → In (l ++ m) x
  in_before x [] m h = in_nil x h
  in_before x (a ∷ l) m h = go (cons_in a x l h) (in_before x l m)
    where
      go : (a ≡ x) ⊎ In l x → (In l x → In (l ++ m) x) → In (a ∷ (l ++ m)) x
      go (inl e) f = in_cons a x (l ++ m) (inl e)
      go (inr n) f = in_later a x (l ++ m) (f n)

  -- and of the second
  pub in_behind : (x : A) (l m : List A) → In m x → In (l ++ m) x
  in_behind x [] m h = h
  in_behind x (a ∷ l) m h = in_later a x (l ++ m) (in_behind x l m h)

  pub append_in : (x : A) (l m : List A) → In (l ++ m) x → In l x ⊎ In m x
  append_in x [] m h = inr h
  append_in x (a ∷ l) m h = go (cons_in a x (l ++ m) h) (append_in x l m)
    where
      on : In l x ⊎ In m x → In (a ∷ l) x ⊎ In m x
      on (inl n) = inl (in_later a x l n)
      on (inr n) = inr n

      go : (a ≡ x) ⊎ In (l ++ m) x → (In (l ++ m) x → In l x ⊎ In m x) → In (a ∷ l) x ⊎ In m x
      go (inl e) f = inl (in_cons a x l (inl e))
      go (inr n) f = on (f n)

  -- the same stand there backward
  pub in_backward : (x : A) (l : List A) → In l x → In (backward l) x
  unfolding backward
  in_backward x [] m = in_nil x m
  in_backward x (a ∷ l) m = go (cons_in a x l m) (in_backward x l)
    where
      go : (a ≡ x) ⊎ In l x → (In l x → In (backward l) x) → In (backward l ++ (a ∷ [])) x
      go (inl e) f = in_behind x (backward l) (a ∷ []) (in_cons a x [] (inl e))
      go (inr n) f = in_before x (backward l) (a ∷ []) (f n)

  pub backward_in : (x : A) (l : List A) → In (backward l) x → In l x
  backward_in x l m = rw (list.backward_twice l) at (in_backward x (backward l) m)

  module _ (number : A → ℕ) where
    -- one more in its place stands there
    pub in_insert_self : (a : A) (l : List A) → In (insert number a l) a
    unfolding insert
    in_insert_self a [] = in_first a []
    in_insert_self a (b ∷ bs) =
        either (leb (number a) (number b))
        (λ t. rw t (in_first a (b ∷ bs)))
        (λ t. rw t (in_later b a (insert number a bs) (in_insert_self a bs)))

    -- beside the others
    pub in_insert : (x a : A) (l : List A) → In l x → In (insert number a l) x
    unfolding insert
    in_insert x a [] m = in_nil x m
    in_insert x a (b ∷ bs) m =
        either (leb (number a) (number b))
        (λ t. rw t (in_later a x (b ∷ bs) m))
        (λ t. rw t (go (cons_in b x bs m) (in_insert x a bs)))
      where
        go : (b ≡ x) ⊎ In bs x → (In bs x → In (insert number a bs) x) → In (b ∷ insert number a bs) x
        go (inl e) f = in_cons b x (insert number a bs) (inl e)
        go (inr n) f = in_later b x (insert number a bs) (f n)

    -- and nothing else does
    pub insert_in : (x a : A) (l : List A) → In (insert number a l) x → (a ≡ x) ⊎ In l x
    unfolding insert
    insert_in x a [] m = cons_in a x [] m
    insert_in x a (b ∷ bs) m =
        either (leb (number a) (number b))
        (λ t. cons_in a x (b ∷ bs) (rw t at m))
        (λ t. go (cons_in b x (insert number a bs) (rw t at m)) (insert_in x a bs))
      where
        on : (a ≡ x) ⊎ In bs x → (a ≡ x) ⊎ In (b ∷ bs) x
        on (inl e) = inl e
        on (inr n) = inr (in_later b x bs n)

        go : (b ≡ x) ⊎ In (insert number a bs) x → (In (insert number a bs) x → (a ≡ x) ⊎ In bs x) → (a ≡ x) ⊎ In (b ∷ bs) x
        go (inl e) f = inr (in_cons b x bs (inl e))
        go (inr n) f = on (f n)

    -- the same stand there by rising number
    pub in_rising : (x : A) (l : List A) → In l x → In (rising number l) x
    in_rising x l m = list_in x (rising number l) (list.in_rising number x l (in_list x l m))

    pub rising_in : (x : A) (l : List A) → In (rising number l) x → In l x
    rising_in x l m =
        all_member (λ a. In l a) (rising number l) (list.all_rising number (λ a. In l a) l (member_all (λ a. In l a) l (λ a n. n))) x m

    -- and in travel order
    pub in_travel : (trip : ℕ) (x : A) (l : List A) → In l x → In (travel number trip l) x
    unfolding travel
    in_travel trip x l m =
        either (eqb (trip % 2) 1)
        (λ t. rw t (in_rising x l m))
        (λ t. rw t (in_backward x (rising number l) (in_rising x l m)))

    pub travel_in : (trip : ℕ) (x : A) (l : List A) → In (travel number trip l) x → In l x
    unfolding travel
    travel_in trip x l m =
        either (eqb (trip % 2) 1)
        (λ t. rising_in x l (rw t at m))
        (λ t. rising_in x l (backward_in x (rising number l) (rw t at m)))

module _ {A B : Type 0} (d : A) (e : B) (f : A → B) where
  -- what f makes of a member stands among what it makes of each
  pub in_each : (x : A) (l : List A) → In d l x → In e (each f l) (f x)
  unfolding each
  in_each x [] m = in_nil d x m
  in_each x (a ∷ l) m = go (cons_in d a x l m) (in_each x l)
    where
      go : (a ≡ x) ⊎ In d l x → (In d l x → In e (each f l) (f x)) → In e (f a ∷ each f l) (f x)
      go (inl p) g = in_cons e (f a) (f x) (each f l) (inl (ap f p))
      go (inr n) g = in_later e (f a) (f x) (each f l) (g n)

  -- and what stands among them is made of a member
  pub each_in : (y : B) (l : List A) → In e (each f l) y → (x : A) × In d l x × (f x ≡ y)
  unfolding each
  each_in y [] m = in_nil e y m
  each_in y (a ∷ l) m = go (cons_in e (f a) y (each f l) m) (each_in y l)
    where
      go : (f a ≡ y) ⊎ In e (each f l) y → (In e (each f l) y → (x : A) × In d l x × (f x ≡ y)) → (x : A) × In d (a ∷ l) x × (f x ≡ y)
      go (inl p) g = (a, in_first d a l, p)
      go (inr n) g = let h = g n in (h.0, in_later d a h.0 l h.1, h.2)
