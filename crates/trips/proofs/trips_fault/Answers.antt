-- `trips::trips_fault` meets its contract: no fault in the order of the index is none, and else the order of the records tells.
use mathlib.Core.Path.{sym}
use Rattle.trips.specs.Answers.{numbered_timed}
use Rattle.trips.proofs.trips_fault.Goals as goal

pub returns-then-none_wrong : goal.returns-then-none_wrong
unfolding numbered_timed
returns-then-none_wrong c = sym (c.none_wrong.ensures c.if-none_wrong.true)
