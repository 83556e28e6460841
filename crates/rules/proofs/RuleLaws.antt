-- Laws of an alternative carrier's codes: whether one of them is given.
use mathlib.Core.Path.{◌≡◌}
use mathlib.Core.Bool.{true, false}
use mathlib.Core.List.{[]}
use Prim.Native.Nat.{ℕ, suc, ◌+◌, ◌-◌, ◌≤◌, ◌<◌}
use native.Mathlib.Omega.{arith}
use lib.ListN.{length, get_or}
use borrow.Author.Tests.{ne_eqb}
use Rattle.file.specs.Format.{Text, Fields}
use Rattle.field.specs.Rules.{any_given}

-- whether one of the codes from text i to before text n is given, by the one at i
module _ (r : Fields) (n i : ℕ) (h : i < n) (t : Text) (e : get_or r i [] ≡ t) where
  pub code_here : (length t ≡ 0 → ⊥) → any_given (n - i) (i + 1) r ≡ true
  unfolding any_given
  code_here g =
      let z : n - i ≡ suc (n - (i + 1)) = omega arith in
      let y : i + 1 - 1 ≡ i = omega arith in
      rw (z, y, e, ne_eqb (length t) 0 g)

  pub code_past : length t ≡ 0 → any_given (n - i) (i + 1) r ≡ any_given (n - (i + 1)) (i + 1 + 1) r
  unfolding any_given
  code_past g =
      let z : n - i ≡ suc (n - (i + 1)) = omega arith in
      let y : i + 1 - 1 ≡ i = omega arith in
      rw (z, y, e, g)

pub code_none : (r : Fields) (n i : ℕ) → n ≤ i → any_given (n - i) (i + 1) r ≡ false
unfolding any_given
code_none r n i h = let z : n - i ≡ 0 = omega arith in rw z
