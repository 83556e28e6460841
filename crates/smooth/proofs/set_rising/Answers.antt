-- `smooth::set_rising` meets its contract. The loop's invariant: the ways to the files below `file` are by their keys.
use Prim.Native.Nat.{◌+◌, ◌*◌, ◌<◌}
use native.Mathlib.Omega.{arith}
use lib.ListN.{length}
use Rattle.smooth.proofs.OrderlyLaws.{rising_more, rising_all}
use Rattle.smooth.proofs.set_rising.Goals as goal

pub loop-file-init : goal.loop-file-init
loop-file-init c = λ b order o k l m. absurd (omega arith)

pub loop-file-preserved : goal.loop-file-preserved
loop-file-preserved c =
    let l = c.loop-file in
    let size : l.file * 3 + 2 < length l.ways = omega (arith, c.requires) in
    rising_more l.ways l.file (omega arith, omega arith) size l.invariant

pub returns : goal.returns
returns c = let l = c.loop-file in rising_all l.ways l.file l.invariant (omega arith)
