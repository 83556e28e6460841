-- `slovdrim_sale` hands on what the counter answers.
use mathlib.Core.Path.{ap, ◌∙◌}
use Rattle.saleresults.specs.Results.{sale_result}
use Rattle.slovdrim.proofs.desk.slovdrim_sale.Goals as goal

pub returns : goal.returns
returns c =
    let e = rw c.files_of-files.ensures at c.may_sell.ensures in
    c.sale_handed.ensures ∙ ap sale_result e
