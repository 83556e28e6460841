-- `codes::two_weeks` meets its contract: of four places of 0 and 1, more than one is 1.
use native.Mathlib.Omega.{arith}
use Rattle.codes.proofs.LeafLaws.{two_weeks_lem}
use Rattle.codes.proofs.two_weeks.Goals as goal

pub overflow_add-result : goal.overflow_add-result
overflow_add-result c =
    let low = c.requires.low in
    omega (arith, low 5, low 6)

pub overflow_add-result-2 : goal.overflow_add-result-2
overflow_add-result-2 c =
    let low = c.requires.low in
    omega (arith, low 5, low 6, low 7)

pub overflow_add-result-3 : goal.overflow_add-result-3
overflow_add-result-3 c =
    let low = c.requires.low in
    omega (arith, low 5, low 6, low 7, low 8)

pub returns : goal.returns
returns c codes s = two_weeks_lem s
