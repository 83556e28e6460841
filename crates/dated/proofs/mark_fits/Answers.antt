-- `dated::mark_fits` meets its contract: the type's being given picks the mark's definition.
use Rattle.field.specs.Rules.{is_note_mark}
use borrow.Author.Rules.{rules}
use Rattle.dated.proofs.mark_fits.Goals as goal

pub returns-then-is_empty : goal.returns-then-is_empty
unfolding is_note_mark
returns-then-is_empty c = rw c.is_one_of.ensures (search rules)
