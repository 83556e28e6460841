-- `recall::record_met` meets its contract. The loop's invariant: the first field from f on with which something is wrong is the first
-- of all.
use mathlib.Core.Path.{◌≡◌}
use Prim.Native.Nat.{◌+◌, ◌-◌}
use Rattle.rules.specs.Texts.{texts}
use Rattle.lookup.specs.Ways.{Lasts}
use Rattle.thirteen.specs.Lent.{batch_of}
use Rattle.link.specs.Stage.{first_amiss, field_amiss}
use Rattle.recall.specs.Recall.{Recalls}
use Rattle.recall.proofs.record_met.Given as goal

abbrev pub invariant-loop-f : goal.invariant-loop-f
invariant-loop-f l = let b = batch_of l.files in
    let r = texts l.file l.row.bytes.now l.row.places.now in
    Lasts b l.last × Recalls b l.table × (first_amiss b l.file r l.f (l.n + 1 - l.f) ≡ field_amiss b l.file r)
