-- `filestages::check_bytes` meets its contract: the lengths of all files come first, then their bytes.
use mathlib.Core.Bool.{not}
use mathlib.Core.Path.{ap}
use mathlib.Core.Path.{sym, ◌∙◌}
use lib.ListN.{take}
use Rattle.thirteen.specs.Batch.{Batch, over_files}
use Rattle.thirteen.specs.Lent.{batch_of}
use Rattle.overfiles.specs.OneFile.{length_fault, bytes_fault}
use Rattle.filestages.specs.Order.{file_stages}
use Rattle.filestages.proofs.OrderLaws.{first_one, stages_stop, stages_past}
use Rattle.filestages.proofs.check_bytes.Goals as goal

pub returns-else-is_none : goal.returns-else-is_none
unfolding file_stages
returns-else-is_none c =
    let files : Batch = batch_of c.args.files.now in
    stages_stop _ _ c.is_none.ensures 1 (take 2 (file_stages files)) (first_one _ (over_files (length_fault files) 1 13) c.first_long-fault.ensures) (ap not c.if-is_none.false)

pub returns-then-is_none : goal.returns-then-is_none
unfolding file_stages
returns-then-is_none c =
    let files : Batch = batch_of c.args.files.now in
    first_one _ (over_files (bytes_fault files) 1 13) c.first_unread.ensures ∙ sym (stages_past _ _ c.is_none.ensures 1 (take 2 (file_stages files)) (first_one _ (over_files (length_fault files) 1 13) c.first_long-fault.ensures) (ap not c.if-is_none.true))
