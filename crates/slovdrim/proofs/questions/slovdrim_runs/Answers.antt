-- `slovdrim_runs` hands on what the counter answers.
use mathlib.Core.Path.{ap, ◌∙◌}
use Rattle.tripresults.specs.Results.{runs_result}
use Rattle.slovdrim.proofs.questions.slovdrim_runs.Goals as goal

pub returns : goal.returns
returns c =
    let e = rw c.files_of-files.ensures at c.runs.ensures in
    c.runs_handed.ensures ∙ ap runs_result e
