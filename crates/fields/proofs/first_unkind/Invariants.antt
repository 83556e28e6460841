-- `fields::first_unkind` meets its contract. The loop's invariant: the first field from i on that isn't of its kind is the first of all.
use mathlib.Core.Path.{◌≡◌}
use Prim.Native.Nat.{◌+◌}
use lib.ListN.{drop}
use Rattle.walk.specs.Walk.{cut_record}
use Rattle.field.specs.Stage.{first_unkind}
use Rattle.fields.proofs.first_unkind.Given as goal

abbrev pub invariant-loop-i : goal.invariant-loop-i
invariant-loop-i l = first_unkind l.file (l.i + 1) (drop l.i (cut_record l.n l.row.bytes.now l.row.places.now)) ≡ first_unkind l.file 1 (cut_record l.n l.row.bytes.now l.row.places.now)
