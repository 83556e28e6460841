-- `amiss::stands_there` meets its contract: where it says yes, the stop of the record there is this one.
use mathlib.Core.Path.{sym, ◌∙◌}
use native.Mathlib.Omega.{arith}
use borrow.Author.Tests.{eqb-true}
use Rattle.amiss.proofs.stands_there.Goals as goal

pub returns-then-at-s : goal.returns-then-at-s
returns-then-at-s c = λ e. (omega arith, sym c.stop_at.ensures ∙ eqb-true _ _ e)
