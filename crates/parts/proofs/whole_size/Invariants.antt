-- `parts::whole_size` meets its contract. The loop's invariant: `size` and the places of the files from `file` on are all.
use mathlib.Core.Path.{◌≡◌}
use Prim.Native.Nat.{◌+◌, ◌-◌, ◌*◌, ◌≤◌}
use lib.ListN.{length}
use Rattle.file.specs.Files.{longest}
use Rattle.thirteen.specs.Lent.{batch_of}
use Rattle.parts.specs.Parts.{parts_from, hint_of}
use Rattle.parts.proofs.whole_size.Given as goal

abbrev pub invariant-loop-file : goal.invariant-loop-file
invariant-loop-file l = let b = batch_of l.files in
    (l.size ≤ l.file * longest) × (l.size + length (parts_from b l.file (11 - l.file)) ≡ length (hint_of b))
