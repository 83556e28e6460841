-- `marks::no_marks` meets its contract: no sign is among none.
use mathlib.Core.Path.{refl}
use Rattle.link.specs.Signs.{is_in}
use Rattle.marks.proofs.no_marks.Goals as goal

pub returns : goal.returns
unfolding is_in
returns c = record { dollar_is = refl; opening_is = refl; closing_is = refl; section_is = refl }
