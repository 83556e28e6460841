-- `is_holiday` meets its contract: whether the day is in what is left of the list is whether it is in the whole.
use mathlib.Core.Path.{◌≡◌}
use lib.ListN.{drop}
use Rattle.signs.specs.Signs.{is_holiday}
use Rattle.signs.proofs.is_holiday.Given as goal

abbrev pub invariant-loop-i : goal.invariant-loop-i
invariant-loop-i l = is_holiday (drop l.i l.holidays) l.number ≡ is_holiday l.holidays l.number
