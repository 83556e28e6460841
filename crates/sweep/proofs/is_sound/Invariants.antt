-- `sweep::is_sound` meets its contract. The loop's invariant: if the file is sound from `at` on, it is sound.
use Prim.Native.Nat.{◌-◌, ◌≤◌}
use lib.ListN.{length}
use Rattle.sweep.specs.Sweep.{SoundFrom}
use Rattle.sweep.proofs.is_sound.Given as goal

abbrev pub invariant-loop-at : goal.invariant-loop-at
invariant-loop-at l = (l.at ≤ length l.s) × (SoundFrom l.file l.n l.s l.at → SoundFrom l.file l.n l.s 0)

abbrev pub decreases-loop-at : goal.decreases-loop-at
decreases-loop-at l = length l.s - l.at
