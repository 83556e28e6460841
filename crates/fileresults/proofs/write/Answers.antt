-- `fileresults::write` hands on what the writer answers, case by case, and leaves in the buffer what the writer leaves there.
use mathlib.Core.Path.{ap, ◌∙◌}
use Rattle.file.specs.Answers.{numbered_written}
use Rattle.fileresults.specs.Results.{write_result}
use Rattle.fileresults.proofs.RefusedLaws.{write_at, refused_write}
use Rattle.fileresults.proofs.write.Goals as goal

pub returns-in-Ok : goal.returns-in-Ok
unfolding numbered_written write_result
returns-in-Ok c =
    let w = c.write in
    (rw (← w.ensures.0, c.in-Ok.is), w.ensures.1)

pub returns-in-Err : goal.returns-in-Err
unfolding numbered_written
returns-in-Err c =
    let w = c.write in
    (rw (← w.ensures.0, c.in-Err.is) (ap write_at c.place_of-p.ensures ∙ refused_write c.in-Err.why), w.ensures.1)
