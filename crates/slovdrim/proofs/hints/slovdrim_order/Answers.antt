-- `slovdrim_order` hands on the answer, and the list as it was left.
use mathlib.Core.Path.{ap, ◌∙◌}
use Rattle.hintresults.specs.Results.{hint_result}
use Rattle.slovdrim.proofs.hints.slovdrim_order.Goals as goal

pub returns : goal.returns
returns c =
    let e = rw c.files_of-files.ensures at c.arrange.ensures in
    (c.hint_handed.ensures ∙ ap hint_result e.0, e.1)
