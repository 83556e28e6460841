-- `asking::put_row` meets its contract: three stores side by side are one splice.
use mathlib.Core.Path.{refl}
use native.Mathlib.Omega.{arith}
use lib.ListN.{length-set}
use Rattle.asking.proofs.RowLaws.{three_stores}
use Rattle.asking.proofs.put_row.Goals as goal

pub bounds-list-at-2 : goal.bounds-list-at-2
bounds-list-at-2 c = simp length-set (omega arith)

pub bounds-list-at-3 : goal.bounds-list-at-3
bounds-list-at-3 c = simp length-set (omega arith)

pub returns : goal.returns
returns c =
    let a = c.args in
    (refl, three_stores a.list.now a.at _ _ _ c.requires)
