-- The third number of the key of a record that was cut: it is the value of its third text.
use mathlib.Core.Path.{◌≡◌, sym, ap, ◌∙◌}
use mathlib.Core.Bool.{true}
use mathlib.Core.List.{List, [], ◌∷◌}
use Prim.Native.Nat.{ℕ, ◌≤◌, ◌<◌}
use native.Mathlib.Omega.{arith}
use lib.ListN.{length}
use Rattle.file.specs.Files.{fields_of}
use Rattle.file.specs.Format.{Text, Fields}
use Rattle.field.specs.Names.{field}
use Rattle.field.specs.Values.{all_digits, value}
use Rattle.keys.specs.Keys.{key_fields, numbers, third, none}
use Rattle.keys.specs.Ranks.{IsKeyed, Numbers}
use Rattle.find.proofs.TripLaws.{three_fields}
use Rattle.link.proofs.KindOfLinks.{keyed_kinds, keyed_numeric, digits_small}
use Rattle.link.specs.Numeric.{NumbersAt}
use Rattle.rules.proofs.KindLaws.{text_at}
use Rattle.rules.specs.Texts.{texts, Kinded}
use Rattle.walk.specs.Walk.{part_of}
use Rattle.walk.proofs.WalkLaws.{cut_size}

-- a key of three numbers is that of fields 1, 2 and 3
pub third_is : (file : ℕ) (r : Fields) → IsKeyed file → length (key_fields file) ≡ 3 → third file r ≡ value (field 3 r)
unfolding third numbers
third_is file r k n = rw (three_fields file k n)

-- it can be read, and is below a thousand million
pub record Third (file : ℕ) (r : Fields) (t : Text) : Type 0 where
  pub digits : all_digits t ≡ true
  pub most : length t ≤ 18
  pub worth : value t ≡ third file r
  pub small : third file r < none

-- the records of a file with such a key have a third field
pub third_there : (file : ℕ) → IsKeyed file → length (key_fields file) ≡ 3 → 3 ≤ fields_of file
third_there file k n = let a : NumbersAt file (1 ∷ 2 ∷ 3 ∷ []) = rw (three_fields file k n) at (keyed_numeric file) in a.1.1.0.2

pub third_text : (file : ℕ) (s places : List ℕ) → IsKeyed file → length (key_fields file) ≡ 3 → Kinded file s places → (t : Text) → t ≡ part_of s places 2
    → Third file (texts file s places) t
unfolding Numbers
third_text file s places k n kinded t e =
    let h = third_there file k n in
    let r = texts file s places in
    let keys : Numbers (1 ∷ 2 ∷ 3 ∷ []) r = rw (three_fields file k n) at (keyed_kinds file r kinded.kinds (cut_size (fields_of file) s places)) in
    let same : field 3 r ≡ t = text_at kinded 2 (omega arith) e in
    let d = digits_small t (rw same at keys.1.1.0) in
    let w : value t ≡ third file r = ap (λ (x : Text). value x) (sym same) ∙ sym (third_is file r k n) in
    record { digits = d.0; most = omega (arith, d.1); worth = w; small = omega (arith, d.2, w) }
