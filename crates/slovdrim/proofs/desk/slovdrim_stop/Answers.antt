-- `slovdrim_stop` hands on what the counter answers.
use mathlib.Core.Path.{ap, ◌∙◌}
use Rattle.saleresults.specs.Results.{stop_result}
use Rattle.slovdrim.proofs.desk.slovdrim_stop.Goals as goal

pub returns : goal.returns
returns c =
    let e = rw c.files_of-files.ensures at c.stop_named.ensures in
    c.named_handed.ensures ∙ ap stop_result e
