-- `answering::ask_at` meets its contract: the seven numbers from place i on are asked, and the answer's three numbers taken.
use mathlib.Core.Path.{sym, ap, ◌∙◌}
use Rattle.laws.specs.Numbered.{Numbered}
use Rattle.asking.specs.Rows.{row}
use Rattle.answering.proofs.ask_at.Goals as goal

pub returns : goal.returns
returns c = ap (λ (a : Numbered). row a) (sym (rw c.question_at-q.ensures at c.sale_on.ensures)) ∙ c.row_of.ensures
