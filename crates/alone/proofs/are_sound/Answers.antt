-- `alone::are_sound` meets its contract. The loop's invariant: each file from `file` on is sound.
use Prim.Native.Nat.{ℕ, ◌-◌}
use native.Mathlib.Omega.{arith}
use Rattle.thirteen.specs.Batch.{Batch}
use Rattle.thirteen.specs.Lent.{batch_of}
use Rattle.sweep.proofs.SoundLaws.{fielded}
use Rattle.alone.proofs.SoundLaws.{sound_more, sound_file}
use Rattle.alone.proofs.are_sound.Goals as goal

pub loop-file-init : goal.loop-file-init
loop-file-init c k h l = absurd (omega arith)

pub is_sound-requires : goal.is_sound-requires
is_sound-requires c = fielded (c.loop-file.file - 1) _ c.fields_of.ensures (omega arith) (omega arith)

pub loop-file-preserved : goal.loop-file-preserved
loop-file-preserved c =
    let b : Batch = batch_of c.args.files.now in
    let file : ℕ = c.loop-file.file - 1 in
    let sound = c.is_sound.ensures c.if-not-is_sound.false in
    sound_more b file (file - 1) (omega arith) c.loop-file.invariant
    (sound_file b file _ _ c.file_of-s.ensures c.fields_of.ensures c.if-s-gt-LONGEST.false sound)

pub returns : goal.returns
returns c t k h l = c.loop-file.invariant k (omega arith) l
