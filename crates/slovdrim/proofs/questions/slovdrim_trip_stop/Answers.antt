-- `slovdrim_trip_stop` hands on what is answered of a trip's stop.
use mathlib.Core.Path.{ap, ◌∙◌}
use Rattle.tripresults.specs.Results.{stop_result}
use Rattle.slovdrim.proofs.questions.slovdrim_trip_stop.Goals as goal

pub returns : goal.returns
returns c =
    let e = rw c.files_of-files.ensures at c.trip_stop.ensures in
    c.stop_handed.ensures ∙ ap stop_result e
