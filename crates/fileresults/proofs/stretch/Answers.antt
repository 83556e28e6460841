-- `fileresults::stretch` hands on what the reader answers, case by case.
use mathlib.Core.Path.{ap, ◌∙◌}
use Rattle.file.specs.Answers.{numbered_stretch}
use Rattle.fileresults.specs.Results.{stretch_result}
use Rattle.fileresults.proofs.RefusedLaws.{stretch_at, refused_stretch}
use Rattle.fileresults.proofs.stretch.Goals as goal

pub returns-in-Ok : goal.returns-in-Ok
unfolding numbered_stretch stretch_result
returns-in-Ok c = ap stretch_result (rw c.in-Ok.is at c.stretch_of.ensures)

pub returns-in-Err : goal.returns-in-Err
unfolding numbered_stretch
returns-in-Err c =
    ap stretch_at c.place_of-p.ensures ∙ refused_stretch c.in-Err.why ∙ ap stretch_result (rw c.in-Err.is at c.stretch_of.ensures)
