-- `parts::put_all` meets its contract. The loop's invariant speaks of what is left: the parts of the files from `file` on, laid over the list as it is,
-- give the list that is wanted.
use mathlib.Core.Path.{refl, ◌∙◌}
use Prim.Native.Nat.{◌<◌}
use native.Mathlib.Omega.{arith}
use Rattle.thirteen.specs.Batch.{Batch}
use Rattle.thirteen.specs.Lent.{batch_of}
use Rattle.parts.proofs.PartLaws.{chosen, parts_counted, parts_laid, parts_all}
use Rattle.parts.proofs.put_all.Goals as goal

pub put_part-at-requires : goal.put_part-at-requires
put_part-at-requires c =
    let files : Batch = batch_of c.args.files.now in
    let h : c.loop-file.file < 11 = omega (arith, c.loop-file-test) in
    let k = chosen files c.loop-file.file _ c.requires.0 (omega arith, omega arith) c.file_of-s.ensures in
    (k.0, k.1, omega (arith, c.loop-file.invariant.1, parts_counted files c.loop-file.file h c.file_of-s.ensures refl))

pub loop-file-preserved : goal.loop-file-preserved
loop-file-preserved c =
    let files : Batch = batch_of c.args.files.now in
    let h : c.loop-file.file < 11 = omega (arith, c.loop-file-test) in
    let count = parts_counted files c.loop-file.file h c.file_of-s.ensures refl in
    let size = c.put_part-at.auto.list in (
      size ∙ c.loop-file.invariant.0,
      omega (arith, c.loop-file.invariant.1, count, c.put_part-at.ensures.1, size),
      parts_laid files c.loop-file.file c.loop-file.list c.loop-file.at h c.loop-file.invariant.1 c.file_of-s.ensures c.put_part-at.ensures.0 c.put_part-at.ensures.1 ∙ c.loop-file.invariant.2,
    )

pub returns : goal.returns
returns c =
    let files : Batch = batch_of c.args.files.now in
    parts_all files c.loop-file.file c.loop-file.list c.loop-file.at (omega (arith, c.loop-file-test)) c.loop-file.invariant.2

pub loop-file-init : goal.loop-file-init
loop-file-init c = (refl, omega (arith, c.requires.1), refl)

pub shape_of-list : goal.shape_of-list
shape_of-list c = c.loop-file.invariant.0
