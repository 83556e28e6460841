-- Bytes laid one behind the other are one lay.
use mathlib.Core.Path.{◌≡◌, subst, ◌∙◌}
use mathlib.Core.List.{List, ◌++◌, append_assoc}
use Prim.Native.Nat.{ℕ, ◌+◌, ◌≤◌}
use native.Mathlib.Omega.{arith}
use lib.ListN.{length, length-append}
use Rattle.laws.specs.Splice.{splice, splice_then}

-- what a lay of bs from `at` on leaves, and the place after it
abbrev pub Laid : List ℕ → ℕ → List ℕ → List ℕ → ℕ → Type 0
Laid d at bs e r = (e ≡ splice d at bs) × (r ≡ at + length bs)

pub laid_then : (d e f : List ℕ) (at n r : ℕ) (a b : List ℕ) → Laid d at a e n → Laid e n b f r → n ≤ length d → Laid d at (a ++ b) f r
laid_then d e f at n r a b p q h =
    (q.0 ∙ rw p.0 (splice_then d at a b n p.1 h), omega (arith, p.1, q.1, length-append a b))

-- a lay, and one that is known whole behind it
laid_more : (d e f g : List ℕ) (at n m r : ℕ) (a b rest : List ℕ) → Laid d at a e n → Laid e n b f m → n ≤ length d
    → (Laid d at (a ++ b) f m → Laid d at ((a ++ b) ++ rest) g r) → Laid d at (a ++ (b ++ rest)) g r
laid_more d e f g at n m r a b rest p q h whole =
    subst (λ (bs : List ℕ). Laid d at bs g r) (append_assoc a b rest) (whole (laid_then d e f at n m a b p q h))

-- three, four, five and six of them
laid_three : (d d1 d2 d3 : List ℕ) (at p1 p2 p3 : ℕ) (a b c : List ℕ) → Laid d at a d1 p1 → Laid d1 p1 b d2 p2 → Laid d2 p2 c d3 p3
    → p2 ≤ length d → Laid d at (a ++ (b ++ c)) d3 p3
laid_three d d1 d2 d3 at p1 p2 p3 a b c l1 l2 l3 h =
    laid_more d d1 d2 d3 at p1 p2 p3 a b c l1 l2 (omega (arith, l2.1)) (λ l. laid_then d d2 d3 at p2 p3 (a ++ b) c l l3 h)

laid_four : (d d1 d2 d3 d4 : List ℕ) (at p1 p2 p3 p4 : ℕ) (a b c e : List ℕ) → Laid d at a d1 p1 → Laid d1 p1 b d2 p2 → Laid d2 p2 c d3 p3 → Laid d3 p3 e d4 p4
    → p3 ≤ length d → Laid d at (a ++ (b ++ (c ++ e))) d4 p4
laid_four d d1 d2 d3 d4 at p1 p2 p3 p4 a b c e l1 l2 l3 l4 h =
    laid_more d d1 d2 d4 at p1 p2 p4 a b (c ++ e) l1 l2 (omega (arith, l2.1, l3.1)) (λ l. laid_three d d2 d3 d4 at p2 p3 p4 (a ++ b) c e l l3 l4 h)

pub laid_five : (d d1 d2 d3 d4 d5 : List ℕ) (at p1 p2 p3 p4 p5 : ℕ) (a b c e f : List ℕ) → Laid d at a d1 p1 → Laid d1 p1 b d2 p2 → Laid d2 p2 c d3 p3 → Laid d3 p3 e d4 p4 → Laid d4 p4 f d5 p5
    → p4 ≤ length d → Laid d at (a ++ (b ++ (c ++ (e ++ f)))) d5 p5
laid_five d d1 d2 d3 d4 d5 at p1 p2 p3 p4 p5 a b c e f l1 l2 l3 l4 l5 h =
    laid_more d d1 d2 d5 at p1 p2 p5 a b (c ++ (e ++ f)) l1 l2 (omega (arith, l2.1, l3.1, l4.1)) (λ l. laid_four d d2 d3 d4 d5 at p2 p3 p4 p5 (a ++ b) c e f l l3 l4 l5 h)

pub laid_six : (d d1 d2 d3 d4 d5 d6 : List ℕ) (at p1 p2 p3 p4 p5 p6 : ℕ) (a b c e f g : List ℕ) → Laid d at a d1 p1 → Laid d1 p1 b d2 p2 → Laid d2 p2 c d3 p3 → Laid d3 p3 e d4 p4 → Laid d4 p4 f d5 p5 → Laid d5 p5 g d6 p6
    → p5 ≤ length d → Laid d at (a ++ (b ++ (c ++ (e ++ (f ++ g))))) d6 p6
laid_six d d1 d2 d3 d4 d5 d6 at p1 p2 p3 p4 p5 p6 a b c e f g l1 l2 l3 l4 l5 l6 h =
    laid_more d d1 d2 d6 at p1 p2 p6 a b (c ++ (e ++ (f ++ g))) l1 l2 (omega (arith, l2.1, l3.1, l4.1, l5.1)) (λ l. laid_five d d2 d3 d4 d5 d6 at p2 p3 p4 p5 p6 (a ++ b) c e f g l l3 l4 l5 l6 h)
