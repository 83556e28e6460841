-- The text of a code in a record that was cut: it is empty, or a number below a thousand million.
use mathlib.Core.Path.{◌≡◌, ap, ◌∙◌}
use mathlib.Core.List.{List}
use Prim.Native.Nat.{ℕ, ◌+◌, ◌-◌}
use native.Mathlib.Omega.{arith}
use lib.ListN.{length}
use Rattle.file.specs.Format.{Text}
use Rattle.field.specs.Names.{field}
use Rattle.link.specs.Numeric.{CodeAt}
use Rattle.rules.specs.Texts.{texts, Kinded}
use Rattle.walk.specs.Walk.{part_of}
use Rattle.amiss.proofs.RecordLaws.{Numeral, code_field, code_part}

module _ (file : ℕ) (s places : List ℕ) (i : ℕ) (k : Kinded file s places) (n : CodeAt file (i + 1)) (t : Text) (e : t ≡ part_of s places i) where
  here : t ≡ part_of s places (i + 1 - 1)
  here = let z : i ≡ i + 1 - 1 = omega arith in e ∙ ap (λ (j : ℕ). part_of s places j) z

  -- it is the field
  pub code_is : field (i + 1) (texts file s places) ≡ t
  code_is = code_field k (i + 1) here n

  -- and, if it is given, a number
  pub code_number : (length t ≡ 0 → ⊥) → Numeral t
  code_number h = code_part k (i + 1) here n h
