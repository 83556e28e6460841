-- The files read so far stand in the buffer, and the last of them ends at `at`.
use Rattle.std.proofs.Common.{◌≡◌, ◌≤◌, ◌-◌, length, get_or}
use Rattle.buffer.specs.Buffer.{Stand}
use Rattle.buffer.proofs.gather.Given as goal

abbrev pub invariant-loop-file : goal.invariant-loop-file
invariant-loop-file g l = record {
  places : 14 ≤ length l.ends;
  in_buffer : l.at ≤ length l.buf;
  last : get_or l.ends (l.file - 1) 0 ≡ l.at;
  stand : Stand (l.file - 1) (length l.initial.buf) l.ends;
}
