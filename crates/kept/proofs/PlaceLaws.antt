-- The places of a list where a test holds: the first and the last of them, and what stands before a place and behind it.
use mathlib.Core.Path.{◌≡◌, refl}
use mathlib.Core.Bool.{Bool, true, false}
use mathlib.Core.List.{List, [], ◌∷◌}
use Prim.Native.Nat.{ℕ, zero, suc, ◌+◌, ◌-◌, ◌≤◌, ◌<◌}
use native.Mathlib.Omega.{arith}
use lib.Dec.{ltb}
use lib.ListN.{length, get_or, take, drop, length-take, length-drop}
use lib.Seq.{get_or-take, get_or-drop}
use borrow.Author.Tests.{ltb-true, ltb-false}
use Rattle.laws.specs.Tests.{one_of, either, never, clash}
use Rattle.trail.specs.Lists.{some, tally}
use Rattle.kept.proofs.Members.{some_in, in_some}

-- a test beside one that fails
pub one_none : (a : Bool) → one_of a false ≡ a
one_none true = refl
one_none false = refl

module _ {A : Type 0} (test : A → Bool) (other : A) where
  -- f is the first place where the test holds
  pub record First (l : List A) (f : ℕ) : Type 0 where
    pub inside : f < length l
    pub holds : test (get_or l f other) ≡ true
    pub none : (i : ℕ) → i < f → test (get_or l i other) ≡ false

  -- e is the last
  pub record Last (l : List A) (e : ℕ) : Type 0 where
    pub inside : e < length l
    pub holds : test (get_or l e other) ≡ true
    pub none : (i : ℕ) → i < length l → e < i → test (get_or l i other) ≡ false

  -- it holds for one of them exactly if it does at a place
  some_at : (l : List A) → some test l ≡ true → (i : ℕ) × (i < length l) × (test (get_or l i other) ≡ true)
  some_at l e =
      let w = some_in other test l e in
      (w.1.0, w.1.1, rw w.1.2 w.2)

  at_some : (l : List A) (i : ℕ) → i < length l → test (get_or l i other) ≡ true → some test l ≡ true
  at_some l i h t = in_some other test (get_or l i other) l (i, h, refl) t

  -- where it holds for none, it does at no place
  none_at : (l : List A) → some test l ≡ false → (i : ℕ) → i < length l → test (get_or l i other) ≡ false
  none_at l e i h = either (test (get_or l i other)) (λ t. clash (at_some l i h t) e) (λ t. t)

  -- where it holds for one, there is a first place
  first_of : (l : List A) → some test l ≡ true → (f : ℕ) × First l f
  unfolding some
  first_of [] e = never e
  first_of (a ∷ l) e =
      either (test a)
      (λ t. (0, record { inside = omega arith; holds = t; none = λ i h. absurd (omega arith) }))
      (λ t.
      let w = first_of l (rw t at e) in
      (suc w.0, record { inside = omega (arith, w.1.inside); holds = w.1.holds; none = go t w.0 w.1 }))
    where
      go : test a ≡ false → (f : ℕ) → First l f → (i : ℕ) → i < suc f → test (get_or (a ∷ l) i other) ≡ false
      go t f w zero h = t
      go t f w (suc i) h = w.none i (omega arith)

  -- and a last
  last_of : (l : List A) → some test l ≡ true → (e : ℕ) × Last l e
  unfolding some
  last_of [] s = never s
  last_of (a ∷ l) s =
      either (some test l)
      (λ t.
      let w = last_of l t in
      (suc w.0, record { inside = omega (arith, w.1.inside); holds = w.1.holds; none = more w.0 w.1 }))
      (λ t. (0, record { inside = omega arith; holds = rw (one_none (test a)) at (rw t at s); none = alone t }))
    where
      more : (e : ℕ) → Last l e → (i : ℕ) → i < suc (length l) → suc e < i → test (get_or (a ∷ l) i other) ≡ false
      more e w zero h g = absurd (omega arith)
      more e w (suc i) h g = w.none i (omega arith) (omega arith)

      alone : some test l ≡ false → (i : ℕ) → i < suc (length l) → 0 < i → test (get_or (a ∷ l) i other) ≡ false
      alone t zero h g = absurd (omega arith)
      alone t (suc i) h g = none_at l t i (omega arith)

  -- where it holds for one, one at least is counted, and conversely
  some_tally : (l : List A) → some test l ≡ true → 1 ≤ tally test l
  unfolding some tally
  some_tally [] e = never e
  some_tally (a ∷ l) e =
      either (test a)
      (λ t. rw t (omega arith))
      (λ t. rw t (some_tally l (rw t at e)))

  tally_some : (l : List A) → 1 ≤ tally test l → some test l ≡ true
  unfolding some tally
  tally_some [] h = absurd (omega arith)
  tally_some (a ∷ l) h =
      either (test a)
      (λ t. rw t)
      (λ t. rw t (tally_some l (rw t at h)))

  -- two are counted where it holds at two places
  pub two_tally : (l : List A) (i j : ℕ) → i < j → j < length l → test (get_or l i other) ≡ true → test (get_or l j other) ≡ true → 2 ≤ tally test l
  unfolding tally
  two_tally [] i j h g t u = absurd (omega arith)
  two_tally (a ∷ l) i zero h g t u = absurd (omega arith)
  two_tally (a ∷ l) zero (suc j) h g t u = rw t (omega (arith, some_tally l (at_some l j (omega arith) u)))
  two_tally (a ∷ l) (suc i) (suc j) h g t u =
      let w = two_tally l i j (omega arith) (omega arith) t u in
      either (test a)
      (λ t. rw t (omega arith))
      (λ t. rw t w)

  tally_two : (l : List A) → 2 ≤ tally test l
      → (i : ℕ) × (j : ℕ) × (i < j) × (j < length l) × (test (get_or l i other) ≡ true) × (test (get_or l j other) ≡ true)
  unfolding tally
  tally_two [] h = absurd (omega arith)
  tally_two (a ∷ l) h =
      either (test a)
      (λ t.
      let g : 2 ≤ suc (tally test l) = rw t at h in
      let w = some_at l (tally_some l (omega arith)) in
      (0, suc w.0, omega arith, omega (arith, w.1), t, w.2))
      (λ t.
      let w = tally_two l (rw t at h) in
      (suc w.0, suc w.1, omega (arith, w.2), omega (arith, w.3), w.4, w.5))

  -- then the first is before the last
  pub ends : (l : List A) → 2 ≤ tally test l → (f : ℕ) × (e : ℕ) × First l f × Last l e × (f < e)
  ends l h =
      let w = tally_two l h in
      let s = at_some l w.1 w.3 w.5 in
      let f = first_of l s in
      let e = last_of l s in
      let a : f.0 ≤ w.0 = either (ltb w.0 f.0)
      (λ t. clash w.4 (f.1.none w.0 (ltb-true w.0 f.0 t)))
      (λ t. ltb-false w.0 f.0 t) in
      let b : w.1 ≤ e.0 = either (ltb e.0 w.1)
      (λ t. clash w.5 (e.1.none w.1 w.3 (ltb-true e.0 w.1 t)))
      (λ t. ltb-false e.0 w.1 t) in
      (f.0, e.0, f.1, e.1, omega (arith, w.2))

  -- it holds for one before a place exactly if the first is before it
  pub before_is : (l : List A) (f : ℕ) → First l f → (i : ℕ) → i < length l → some test (take i l) ≡ ltb f i
  before_is l f w i h =
      either (ltb f i)
      (λ t.
      let g = ltb-true f i t in
      rw t (at_some (take i l) f (omega (arith, length-take i l)) (rw (get_or-take i l f other) w.holds)))
      (λ t.
      let g = ltb-false f i t in
      rw t (either (some test (take i l))
      (λ s.
      let v = some_at (take i l) s in
      let k : v.0 < i = omega (arith, v.1, length-take i l) in
      let u : test (get_or l v.0 other) ≡ true = rw (get_or-take i l v.0 other k) at v.2 in
      clash u (w.none v.0 (omega arith)))
      (λ s. s)))

  -- it holds for one behind a place exactly if the last is behind it
  pub behind_is : (l : List A) (e : ℕ) → Last l e → (i : ℕ) → i < length l → some test (drop (suc i) l) ≡ ltb i e
  behind_is l e w i h =
      either (ltb i e)
      (λ t.
      let g = ltb-true i e t in
      let z : suc i + (e - suc i) ≡ e = omega arith in
      let u : test (get_or (drop (suc i) l) (e - suc i) other) ≡ true = rw (get_or-drop (suc i) l (e - suc i) other, z) w.holds in
      rw t (at_some (drop (suc i) l) (e - suc i) (omega (arith, length-drop (suc i) l, w.inside)) u))
      (λ t.
      let g = ltb-false i e t in
      rw t (either (some test (drop (suc i) l))
      (λ s.
      let v = some_at (drop (suc i) l) s in
      let u : test (get_or l (suc i + v.0) other) ≡ true = rw (get_or-drop (suc i) l v.0 other) at v.2 in
      clash u (w.none (suc i + v.0) (omega (arith, v.1, length-drop (suc i) l)) (omega arith)))
      (λ s. s)))
