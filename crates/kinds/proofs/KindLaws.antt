-- A law of a list of kinds: a run of one kind.
use mathlib.Core.Path.{◌≡◌, refl, sym, ap, ◌∙◌}
use mathlib.Core.List.{List, ◌++◌}
use Prim.Native.Nat.{ℕ, zero, suc, ◌+◌, ◌-◌, ◌≤◌, ◌<◌}
use native.Mathlib.Omega.{arith}
use lib.ListN.{length, get_or, drop, replicate, get_or-append, length-replicate}
use lib.Seq.{get_or-drop}
use Rattle.field.specs.declared.Kind.{Kind}

in_run : (n i : ℕ) (k d : Kind) → i < n → get_or (replicate n k) i d ≡ k
in_run zero i k d h = absurd (omega arith)
in_run (suc n) zero k d h = refl
in_run (suc n) (suc i) k d h = in_run n i k d (omega arith)

-- n fields of one kind from place `at` on
pub run : (l r : List Kind) (at n : ℕ) (k d : Kind) (f : ℕ) → drop at l ≡ replicate n k ++ r → at ≤ f → f < at + n → get_or l f d ≡ k
run l r at n k d f e p q =
    let i : at + (f - at) ≡ f = omega arith in
    let h : f - at < n = omega arith in
    let g : f - at < length (replicate n k) = rw length-replicate h in
    ap (λ (j : ℕ). get_or l j d) (sym i)
    ∙ sym (get_or-drop at l (f - at) d)
    ∙ ap (λ (m : List Kind). get_or m (f - at) d) e
    ∙ get_or-append (replicate n k) r d (f - at) g
    ∙ in_run n (f - at) k d h
