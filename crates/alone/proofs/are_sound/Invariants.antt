-- `alone::are_sound` meets its contract. The loop's invariant: each file from `file` on is sound.
use Prim.Native.Nat.{◌-◌}
use Rattle.thirteen.specs.Lent.{batch_of}
use Rattle.alone.proofs.SoundLaws.{SoundBehind}
use Rattle.alone.proofs.are_sound.Given as goal

abbrev pub invariant-loop-file : goal.invariant-loop-file
invariant-loop-file l = SoundBehind (batch_of l.files) (l.file - 1)
