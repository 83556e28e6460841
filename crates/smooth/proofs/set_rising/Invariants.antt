-- `smooth::set_rising` meets its contract. The loop's invariant: the ways to the files below `file` are by their keys.
use Rattle.smooth.proofs.OrderlyLaws.{RisingBelow}
use Rattle.smooth.proofs.set_rising.Given as goal

abbrev pub invariant-loop-file : goal.invariant-loop-file
invariant-loop-file l = RisingBelow l.ways l.file
