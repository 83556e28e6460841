-- `slovdrim_sales` hands on what the counter answers, and the list as the counter leaves it.
use mathlib.Core.Path.{ap, ◌∙◌}
use Rattle.saleresults.specs.Results.{sales_result}
use Rattle.slovdrim.proofs.desk.slovdrim_sales.Goals as goal

pub returns : goal.returns
returns c =
    let e = rw c.files_of-files.ensures at c.many_sales.ensures in
    (c.sales_handed.ensures ∙ ap sales_result e.0, e.1)
