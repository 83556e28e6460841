-- `routes::survey` meets its contract. The loop's invariant: the ways to the files below `file` are kept.
use mathlib.Core.Path.{◌≡◌}
use Prim.Native.Nat.{◌≤◌}
use lib.ListN.{length}
use Rattle.thirteen.specs.Lent.{batch_of}
use Rattle.routes.proofs.RouteLaws.{WaysBelow}
use Rattle.routes.proofs.survey.Given as goal

abbrev pub invariant-loop-file : goal.invariant-loop-file
invariant-loop-file l = (l.from ≤ length l.order) × (33 ≤ length l.ways) × (length l.ways ≡ length l.initial.ways) × WaysBelow (batch_of l.files) l.order l.ways l.file
