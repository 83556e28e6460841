-- What the kind of a field that may be empty says of a text that it admits and that is given.
use mathlib.Core.Path.{◌≡◌, refl}
use mathlib.Core.Bool.{Bool, true, false, not}
use Prim.Native.Nat.{ℕ}
use Rattle.laws.specs.Tests.{one_of, never}
use Rattle.file.specs.Format.{Text}
use Rattle.field.specs.Values.{is_empty, given, is_digits}
use Rattle.field.specs.Kinds.{admits}
use Rattle.field.specs.declared.Kind.{Kind}

-- a choice of three is a choice of two, of which one is of two
pub of_three : (a b c : Bool) → one_of (one_of a b) c ≡ one_of a (one_of b c)
of_three true b c = refl
of_three false b c = refl

other : (a b : Bool) → one_of a b ≡ true → not a ≡ true → b ≡ true
other true b e h = never h
other false b e h = e

pub given_digits : (a b : ℕ) (t : Text) → admits (Kind.MaybeDigits a b) t ≡ true → given t ≡ true → is_digits a b t ≡ true
unfolding admits
given_digits a b t e h = other (is_empty t) (is_digits a b t) e h
