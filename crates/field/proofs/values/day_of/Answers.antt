-- `field::values::day_of` meets its contract: a date's parts are those of a real date.
use mathlib.Core.Path.{◌∙◌}
use native.Mathlib.Omega.{arith}
use Rattle.field.specs.Values.{day_of_text}
use Rattle.field.proofs.ValueLaws.{date_digits, date_real}
use Rattle.field.proofs.values.day_of.Goals as goal

pub two_at-requires : goal.two_at-requires
two_at-requires c = let d = date_digits _ c.requires in (d.digits, omega arith)

pub two_at-requires-2 : goal.two_at-requires-2
two_at-requires-2 c = let d = date_digits _ c.requires in (d.digits, omega arith)

pub rest_at-requires : goal.rest_at-requires
rest_at-requires c = let d = date_digits _ c.requires in (d.digits, omega arith, omega arith)

pub day_number-requires : goal.day_number-requires
day_number-requires c =
    rw (c.two_at.ensures, c.two_at-2.ensures, c.rest_at.ensures)
    (date_real _ c.requires)

pub returns : goal.returns
unfolding day_of_text
returns c =
    c.day_number.ensures
    ∙ rw (c.two_at.ensures, c.two_at-2.ensures, c.rest_at.ensures)
