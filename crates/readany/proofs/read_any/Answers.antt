-- `readany::read_any` meets its contract: all fields were read, and the line's end is due.
use native.Mathlib.Omega.{arith}
use mathlib.Core.Path.{refl}
use Rattle.readany.proofs.PlaceLaws.{due_read}
use Rattle.readany.proofs.read_any.Goals as goal

pub returns : goal.returns
returns c = due_read c.loop-f.invariant refl (omega arith) c.requires.1 c.line_end.result c.line_end.ensures
