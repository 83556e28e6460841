-- `fileresults::records` hands on what the reader answers, case by case.
use mathlib.Core.Path.{ap, ◌∙◌}
use Rattle.file.specs.Answers.{numbered_counted}
use Rattle.fileresults.specs.Results.{records_result}
use Rattle.fileresults.proofs.RefusedLaws.{records_at, refused_records}
use Rattle.fileresults.proofs.records.Goals as goal

pub returns-in-Ok : goal.returns-in-Ok
unfolding numbered_counted records_result
returns-in-Ok c = rw (← c.records.ensures, c.in-Ok.is)

pub returns-in-Err : goal.returns-in-Err
unfolding numbered_counted
returns-in-Err c =
    rw (← c.records.ensures, c.in-Err.is) (ap records_at c.place_of-p.ensures ∙ refused_records c.in-Err.why)
