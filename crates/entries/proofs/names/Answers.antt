-- `entries::names` meets its contract.
use native.Mathlib.Omega.{arith}
use borrow.Author.Tests.{eqb-true, le-ltb}
use Rattle.laws.specs.Tests.{clash}
use Rattle.entries.proofs.names.Goals as goal

pub overflow_cast-result : goal.overflow_cast-result
overflow_cast-result c = omega (arith, c.type_inv.part c.args.entry)

pub returns-then-entry-part : goal.returns-then-entry-part
returns-then-entry-part c e = (omega arith, eqb-true _ _ e)

pub returns-else-entry-part : goal.returns-else-entry-part
returns-else-entry-part c e = clash e (le-ltb _ _ c.if-entry-part.false)
