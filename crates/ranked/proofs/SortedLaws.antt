-- Numbers in order: each was given, different ones stay different, and none comes behind a later one. A number goes in behind those that it doesn't come
-- before, and the first that it comes before comes before all that follow: so what was in order stays in order.
use Prim.Native.Nat.{ℕ, zero, suc, ◌<◌}
use mathlib.Core.Path.{◌≡◌, sym}
use mathlib.Core.List.{List, [], ◌∷◌}
use native.Mathlib.Omega.{arith}
use lib.ListN.{length, get_or}
use Rattle.laws.specs.Tests.{either}
use Rattle.ranked.specs.Ranked.{before, insert, in_order}
use Rattle.ranked.specs.Heaps.{Le}
use Rattle.ranked.proofs.RankedLaws.{before_then, before_other}

-- P of each number, and R of each two, the earlier first
unfoldable Each : (ℕ → Type 0) → List ℕ → Type 0
Each P [] = Unit
Each P (x ∷ l) = P x × Each P l

unfoldable Pairs : (ℕ → ℕ → Type 0) → List ℕ → Type 0
Pairs R [] = Unit
Pairs R (x ∷ l) = Each (R x) l × Pairs R l

-- the same of the entries by their places
abbrev pub Entries : (ℕ → Type 0) → List ℕ → Type 0
Entries P l = (i : ℕ) → i < length l → P (get_or l i 0)

abbrev pub EntryPairs : (ℕ → ℕ → Type 0) → List ℕ → Type 0
EntryPairs R l = (i j : ℕ) → i < j → j < length l → R (get_or l i 0) (get_or l j 0)

each_of : (P : ℕ → Type 0) (l : List ℕ) → Entries P l → Each P l
unfolding Each
each_of P [] p = tt
each_of P (x ∷ l) p = (p 0 (omega arith), each_of P l (λ i h. p (suc i) (omega arith)))

each_at : (P : ℕ → Type 0) (l : List ℕ) → Each P l → Entries P l
unfolding Each
each_at P [] p i h = absurd (omega arith)
each_at P (x ∷ l) p zero h = p.0
each_at P (x ∷ l) p (suc i) h = each_at P l p.1 i (omega arith)

pairs_of : (R : ℕ → ℕ → Type 0) (l : List ℕ) → EntryPairs R l → Pairs R l
unfolding Pairs
pairs_of R [] r = tt
pairs_of R (x ∷ l) r =
    (each_of (R x) l (λ i h. r 0 (suc i) (omega arith) (omega arith)), pairs_of R l (λ i j h k. r (suc i) (suc j) (omega arith) (omega arith)))

pairs_at : (R : ℕ → ℕ → Type 0) (l : List ℕ) → Pairs R l → EntryPairs R l
unfolding Pairs
pairs_at R [] r i j h k = absurd (omega arith)
pairs_at R (x ∷ l) r zero zero h k = absurd (omega arith)
pairs_at R (x ∷ l) r zero (suc j) h k = each_at (R x) l r.0 j (omega arith)
pairs_at R (x ∷ l) r (suc i) zero h k = absurd (omega arith)
pairs_at R (x ∷ l) r (suc i) (suc j) h k = pairs_at R l r.1 i j (omega arith) (omega arith)

module _ (rank : ℕ → ℕ) where
  each_insert : (P : ℕ → Type 0) (x : ℕ) (l : List ℕ) → P x → Each P l → Each P (insert rank x l)
  unfolding Each insert
  each_insert P x [] p q = (p, tt)
  each_insert P x (y ∷ l) p q = either (before rank x y) (λ t. rw t (p, q)) (λ t. rw t (q.0, each_insert P x l p q.1))

  each_order : (P : ℕ → Type 0) (l : List ℕ) → Each P l → Each P (in_order rank l)
  unfolding Each in_order
  each_order P [] p = tt
  each_order P (x ∷ l) p = each_insert P x (in_order rank l) p.0 (each_order P l p.1)

  -- what is so of each number is so of each in order: there are no others
  pub order_each : (P : ℕ → Type 0) (l : List ℕ) → Entries P l → Entries P (in_order rank l)
  order_each P l p = each_at P (in_order rank l) (each_order P l (each_of P l p))

  module _ (R : ℕ → ℕ → Type 0) (turned : (x y : ℕ) → R x y → R y x) where
    -- R of two of which the first doesn't come behind the second
    abbrev Goes : ℕ → ℕ → Type 0
    Goes x y = Le rank x y × R x y

    -- x comes before y, so it comes before all that y comes before
    each_behind : (x y : ℕ) (l : List ℕ) → Le rank x y → Each (R x) l → Each (Goes y) l → Each (Goes x) l
    unfolding Each
    each_behind x y [] h r g = tt
    each_behind x y (z ∷ l) h r g = ((before_then rank x y z h g.0.0, r.0), each_behind x y l h r.1 g.1)

    pairs_insert : (x : ℕ) (l : List ℕ) → Each (R x) l → Pairs Goes l → Pairs Goes (insert rank x l)
    unfolding Each Pairs insert
    pairs_insert x [] r g = (tt, tt)
    pairs_insert x (y ∷ l) r g =
        either (before rank x y)
        (λ t. rw t (((t, r.0), each_behind x y l t r.1 g.0), g))
        (λ t. rw t (each_insert (Goes y) x l (before_other rank x y t, turned x y r.0) g.0, pairs_insert x l r.1 g.1))

    pairs_order : (l : List ℕ) → Pairs R l → Pairs Goes (in_order rank l)
    unfolding Pairs in_order
    pairs_order [] r = tt
    pairs_order (x ∷ l) r = pairs_insert x (in_order rank l) (each_order (R x) l r.0) (pairs_order l r.1)

    -- what is so of any two numbers is so of any two in order, and the earlier doesn't come behind the later
    order_pairs : (l : List ℕ) → EntryPairs R l → EntryPairs Goes (in_order rank l)
    order_pairs l r = pairs_at Goes (in_order rank l) (pairs_order l (pairs_of R l r))

  -- none comes behind a later one
  pub order_sorted : (l : List ℕ) → EntryPairs (Le rank) (in_order rank l)
  order_sorted l i j h k = (order_pairs (λ x y. Unit) (λ x y u. u) l (λ a b p q. tt) i j h k).0

  -- different numbers stay different
  pub order_apart : (l : List ℕ) → EntryPairs (λ x y. x ≡ y → ⊥) l → EntryPairs (λ x y. x ≡ y → ⊥) (in_order rank l)
  order_apart l r i j h k = (order_pairs (λ x y. x ≡ y → ⊥) (λ x y n e. n (sym e)) l r i j h k).1
