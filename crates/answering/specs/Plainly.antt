-- A question's answer as the code goes about it.
use Rattle.std.specs.Prelude.{ℕ, List}
use Rattle.file.specs.Format.{Fields}
use Rattle.ticket.specs.Plain.{plain_sale}
use Rattle.asking.specs.Rows.{Ask}

-- on the records of each file
abbrev pub plainly : List Fields → List Fields → List Fields → List Fields → List Fields → List Fields → List ℕ → Ask
plainly codes lines trips line_stops stops times holidays line trip day month year from to =
    plain_sale codes lines trips line_stops stops times line trip day month year from to holidays
