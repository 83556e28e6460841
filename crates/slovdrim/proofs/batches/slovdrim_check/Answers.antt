-- `slovdrim_check` hands on what the check answers.
use mathlib.Core.Path.{ap, ◌∙◌}
use Rattle.checkresults.specs.Results.{check_result}
use Rattle.slovdrim.proofs.batches.slovdrim_check.Goals as goal

pub returns : goal.returns
returns c =
    let e = rw c.files_of-files.ensures at c.check.ensures in
    c.judged.ensures ∙ ap check_result e
