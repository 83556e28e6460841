-- Laws of `last_begun`, over any beginnings: it has begun, the next one has not, and where beginnings never fall there is no other such.
use Rattle.std.specs.Prelude.{◌≡◌, refl, Bool, true, false, ℕ, zero, suc, ◌+◌, ◌-◌, ◌≤◌, ◌<◌, leb}
use Rattle.std.proofs.Common.{sym, subst, arith, leb-true, leb-false, le-leb}
use Rattle.std.proofs.Math.Decide.{ℕ_discrete}
use Rattle.std.proofs.lemmas.Bool.{lt-leb}
use Rattle.laws.specs.Tests.{pick}
use Rattle.dates.specs.Dates.{last_begun}

pub last_le : (start : ℕ → ℕ) (k n : ℕ) → last_begun start k n ≤ k
unfolding last_begun
last_le start zero n = omega arith
last_le start (suc k) n = go (leb (start (suc k)) n) (last_le start k n)
  where
    go : (t : Bool) → last_begun start k n ≤ k → pick t (suc k) (last_begun start k n) ≤ suc k
    go true h = omega arith
    go false h = omega arith

pub last_begun_lem : (start : ℕ → ℕ) (k n : ℕ) → start 0 ≤ n → start (last_begun start k n) ≤ n
unfolding last_begun
last_begun_lem start zero n h = h
last_begun_lem start (suc k) n h = go (leb (start (suc k)) n) refl (last_begun_lem start k n h)
  where
    go : (t : Bool) → leb (start (suc k)) n ≡ t → start (last_begun start k n) ≤ n → start (pick t (suc k) (last_begun start k n)) ≤ n
    go true e h = leb-true _ _ e
    go false e h = h

pub last_next : (start : ℕ → ℕ) (k n : ℕ) → n < start (suc k) → n < start (suc (last_begun start k n))
unfolding last_begun
last_next start zero n h = h
last_next start (suc k) n h = go (leb (start (suc k)) n) refl (last_next start k n)
  where
    go : (t : Bool) → leb (start (suc k)) n ≡ t → (n < start (suc k) → n < start (suc (last_begun start k n))) → n < start (suc (pick t (suc k) (last_begun start k n)))
    go true e r = h
    go false e r = r (leb-false _ _ e)

-- where beginnings never fall, a later one is no earlier
pub rises : (start : ℕ → ℕ) → ((i : ℕ) → start i ≤ start (suc i)) → (i k : ℕ) → start i ≤ start (i + k)
rises start up i zero = subst (λ (m : ℕ). start i ≤ start m) {x = i} {y = i + 0} (omega arith) (omega arith)
rises start up i (suc k) =
    let a : start i ≤ start (i + k) = rises start up i k in
    let b : start (i + k) ≤ start (suc (i + k)) = up (i + k) in
    subst (λ (m : ℕ). start i ≤ start m) {x = suc (i + k)} {y = i + suc k} (omega arith) (omega arith)

pub last_is : (start : ℕ → ℕ) → ((i : ℕ) → start i ≤ start (suc i)) → (k j n : ℕ) → j ≤ k → start j ≤ n → n < start (suc j) → last_begun start k n ≡ j
unfolding last_begun
last_is start up zero j n p q r = omega arith
last_is start up (suc k) j n p q r = go (ℕ_discrete j (suc k)) (last_is start up k j n)
  where
    go : Dec (j ≡ suc k) → (j ≤ k → start j ≤ n → n < start (suc j) → last_begun start k n ≡ j) → pick (leb (start (suc k)) n) (suc k) (last_begun start k n) ≡ j
    go (yes e) h =
        let g : start (suc k) ≤ n = subst (λ (m : ℕ). start m ≤ n) e q in
        rw (le-leb (start (suc k)) n g) (sym e)
    go (no e) h =
        let a : start (suc j) ≤ start (suc j + (k - j)) = rises start up (suc j) (k - j) in
        let b : suc j + (k - j) ≡ suc k = omega arith in
        let d : start (suc j) ≤ start (suc k) = subst (λ (m : ℕ). start (suc j) ≤ start m) b a in
        let g : n < start (suc k) = omega arith in
        rw (lt-leb (start (suc k)) n g) (h (omega arith) q r)

-- the last of all has begun
pub last_top : (start : ℕ → ℕ) (k n : ℕ) → start 0 ≤ n → start k ≤ n → last_begun start k n ≡ k
unfolding last_begun
last_top start zero n z h = refl
last_top start (suc k) n z h = rw (le-leb (start (suc k)) n h)
