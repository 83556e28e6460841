-- `field::values::value_of` meets its contract. The loop's invariant: what is left, after digits worth `v`, is worth what the whole
-- is; what is left is digits, and those passed are worth less than 10 to their number, so no sum wraps.
use mathlib.Core.Path.{◌≡◌}
use mathlib.Core.Bool.{true}
use Prim.Native.Nat.{◌^◌, ◌<◌}
use lib.ListN.{drop}
use Rattle.field.specs.Values.{all_digits, value_from, value}
use Rattle.field.proofs.values.value_of.Given as goal

abbrev pub invariant-loop-b : goal.invariant-loop-b
invariant-loop-b l = (value_from l.v (drop l.b-index l.t) ≡ value l.t) × (all_digits (drop l.b-index l.t) ≡ true) × (l.v < 10 ^ l.b-index)
