-- `codes::beside_three` meets its contract: of seven places of 0 and 1, one is 1.
use native.Mathlib.Omega.{arith}
use Rattle.codes.proofs.LeafLaws.{beside_three_lem}
use Rattle.codes.proofs.beside_three.Goals as goal

pub overflow_add-result : goal.overflow_add-result
overflow_add-result c = let low = c.requires.low in omega (arith, low 1, low 2)

pub overflow_add-result-2 : goal.overflow_add-result-2
overflow_add-result-2 c = let low = c.requires.low in omega (arith, low 1, low 2, low 4)

pub overflow_add-result-3 : goal.overflow_add-result-3
overflow_add-result-3 c = let low = c.requires.low in omega (arith, low 1, low 2, low 4, low 5)

pub overflow_add-result-4 : goal.overflow_add-result-4
overflow_add-result-4 c = let low = c.requires.low in omega (arith, low 1, low 2, low 4, low 5, low 6)

pub overflow_add-result-5 : goal.overflow_add-result-5
overflow_add-result-5 c = let low = c.requires.low in omega (arith, low 1, low 2, low 4, low 5, low 6, low 7)

pub overflow_add-result-6 : goal.overflow_add-result-6
overflow_add-result-6 c = let low = c.requires.low in omega (arith, low 1, low 2, low 4, low 5, low 6, low 7, low 8)

pub returns : goal.returns
returns c codes s = beside_three_lem s
