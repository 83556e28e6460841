-- The place lies in the buffer, and what stands before `from` is as it was. Each read is lent the rest of the buffer alone.
use Rattle.std.proofs.Common.{◌≡◌, ◌≤◌, ◌-◌, length, take}
use Rattle.loading.proofs.fill.Given as goal

abbrev pub invariant-loop-at : goal.invariant-loop-at
invariant-loop-at g l = record {
  behind : l.from ≤ l.at;
  in_buffer : l.at ≤ length l.buf;
  kept : take l.from l.buf ≡ take l.from l.initial.buf;
}

abbrev pub decreases-loop-at : goal.decreases-loop-at
decreases-loop-at g l = length l.initial.buf - l.at
