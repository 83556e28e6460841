-- `preceding::with_number` meets its contract.
use mathlib.Core.Path.{sym, ◌∙◌}
use native.Mathlib.Omega.{arith}
use Rattle.previous.proofs.PreviousLaws.{with_none, with_some}
use Rattle.preceding.proofs.with_number.Goals as goal

pub returns-then-y-eq0 : goal.returns-then-y-eq0
returns-then-y-eq0 c =
    let a = c.args in
    sym (with_none a.file a.line a.trip _ a.y c.if-y-eq0.true)

pub returns : goal.returns
returns c =
    let a = c.args in
    c.with_three.ensures ∙ sym (with_some a.file a.line a.trip _ a.y c.if-y-eq0.false)

pub with_three-requires : goal.with_three-requires
with_three-requires c = let p = c.requires in let ne = c.if-y-eq0.false in (p.0, p.1, p.2, omega (arith, ne, p.3))
