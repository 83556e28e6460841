-- `parts::put_all` meets its contract. The loop's invariant speaks of what is left: the parts of the files from `file` on, laid over the list as it is,
-- give the list that is wanted.
use mathlib.Core.Path.{◌≡◌}
use Prim.Native.Nat.{◌+◌, ◌-◌, ◌≤◌}
use lib.ListN.{length}
use Rattle.laws.specs.Splice.{splice}
use Rattle.thirteen.specs.Lent.{batch_of}
use Rattle.parts.specs.Parts.{parts_from, hint_of}
use Rattle.parts.proofs.put_all.Given as goal

abbrev pub invariant-loop-file : goal.invariant-loop-file
invariant-loop-file l = let b = batch_of l.files in
    (length l.list ≡ length l.initial.list)
    × (l.at + length (parts_from b l.file (11 - l.file)) ≤ length l.list)
    × (splice l.list l.at (parts_from b l.file (11 - l.file)) ≡ splice l.initial.list 0 (hint_of b))
