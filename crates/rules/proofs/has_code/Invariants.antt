-- `rules::has_code` meets its contract. The loop's invariant: whether one of the codes that are left is given is whether one of all is.
use mathlib.Core.Path.{◌≡◌}
use Prim.Native.Nat.{◌+◌, ◌-◌}
use Rattle.field.specs.Rules.{any_given}
use Rattle.rules.specs.Texts.{texts}
use Rattle.rules.proofs.has_code.Given as goal

abbrev pub invariant-loop-i : goal.invariant-loop-i
invariant-loop-i l = any_given (9 - l.i) (l.i + 1) (texts 11 l.row.bytes.now l.row.places.now) ≡ any_given 6 4 (texts 11 l.row.bytes.now l.row.places.now)
