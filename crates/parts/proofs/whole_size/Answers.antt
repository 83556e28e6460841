-- `parts::whole_size` meets its contract. The loop's invariant: `size` and the places of the files from `file` on are all.
use mathlib.Core.Path.{ap}
use Prim.Native.Nat.{◌≤◌, ◌<◌}
use native.Mathlib.Omega.{arith}
use lib.ListN.{length}
use Rattle.file.specs.Files.{longest}
use Rattle.keys.specs.KeyFiles.{KeyFile}
use Rattle.thirteen.specs.Batch.{Batch}
use Rattle.thirteen.specs.Lent.{batch_of}
use Rattle.parts.proofs.PartLaws.{chosen, part_few, parts_counted, parts_done}
use Rattle.parts.proofs.whole_size.Goals as goal

pub loop-file-preserved : goal.loop-file-preserved
loop-file-preserved c =
    let files : Batch = batch_of c.args.files.now in
    let here : KeyFile c.loop-file.file c.file_of-s.result.now × (length c.file_of-s.result.now ≤ longest) =
    chosen files c.loop-file.file _ c.requires (omega arith, omega (arith, c.loop-file-test)) c.file_of-s.ensures in
    let few : c.size_of-size.result ≤ longest =
    let k = here in
    omega (arith, c.size_of-size.ensures, k.1, part_few c.loop-file.file _ k.0) in
    let h : c.loop-file.file < 11 = omega (arith, c.loop-file-test) in
    let z = parts_counted files c.loop-file.file h c.file_of-s.ensures c.size_of-size.ensures in
    (omega (arith, c.loop-file.invariant.0, few), omega (arith, z, c.loop-file.invariant.1))

pub returns : goal.returns
returns c =
    let files : Batch = batch_of c.args.files.now in
    omega (arith, c.loop-file.invariant.1, ap length (parts_done files c.loop-file.file (omega (arith, c.loop-file-test))))

pub overflow_add-size : goal.overflow_add-size
overflow_add-size c =
    let files : Batch = batch_of c.args.files.now in
    let here : KeyFile c.loop-file.file c.file_of-s.result.now × (length c.file_of-s.result.now ≤ longest) =
    chosen files c.loop-file.file _ c.requires (omega arith, omega (arith, c.loop-file-test)) c.file_of-s.ensures in
    let few : c.size_of-size.result ≤ longest =
    let k = here in
    omega (arith, c.size_of-size.ensures, k.1, part_few c.loop-file.file _ k.0) in
    omega (arith, few, c.loop-file.invariant.0, c.loop-file-test)
