-- `file::table::fields_of` meets its contract: the table is the definition's, and no file has a number past its end.
use mathlib.Core.Path.{refl, sym}
use mathlib.Core.List.{◌∷◌}
use lib.ListN.{get_or-eq_default}
use Rattle.file.specs.Files.{fields_of, field_counts}
use Rattle.file.proofs.table.fields_of.Goals as goal

pub returns-then-file-lt14 : goal.returns-then-file-lt14
unfolding fields_of field_counts
returns-then-file-lt14 c = refl

pub returns-else-file-lt14 : goal.returns-else-file-lt14
unfolding fields_of field_counts
returns-else-file-lt14 c = sym (get_or-eq_default (0 ∷ field_counts) 0 c.if-file-lt14.false)
