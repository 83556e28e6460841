-- `batch::check` meets its contract: what was found is the verdict.
use mathlib.Core.Bool.{not}
use mathlib.Core.Path.{ap}
use Rattle.thirteen.specs.Batch.{file_in}
use Rattle.batch.proofs.VerdictLaws.{refused, countable, accepted}
use Rattle.batch.proofs.check.Goals as goal

pub returns-then-not-is_none : goal.returns-then-not-is_none
returns-then-not-is_none c = refused _ _ c.check_with-fault.ensures.0 _ c.is_none.ensures (ap not c.if-not-is_none.true)

pub counts_of-requires : goal.counts_of-requires
unfolding file_in
counts_of-requires c = countable _ _ c.check_with-fault.ensures.0 _ c.is_none.ensures (ap not c.if-not-is_none.false)

pub returns : goal.returns
unfolding file_in
returns c =
    accepted _ _ c.check_with-fault.ensures.0 _ c.is_none.ensures (ap not c.if-not-is_none.false) _ c.counts_of.ensures
