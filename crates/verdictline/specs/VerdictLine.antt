-- Document 01, "The check program and the desk host": the line of a verdict, as bytes with its LF.
use Rattle.std.specs.Prelude.{ℕ, List, eqb, get_or}
use Rattle.laws.specs.Tests.{pick}
use Rattle.laws.specs.Numbered.{Numbered}
use Rattle.phrase.specs.Phrases.{accepted_line, refused_line}

-- the line of a verdict: its counts where the number is 0, else the number and the place
unfoldable pub verdict_line : Numbered → List ℕ
verdict_line a =
    pick (eqb a.number 0)
    (accepted_line (get_or a.values 0 0) (get_or a.values 1 0) (get_or a.values 2 0) (get_or a.values 3 0))
    (refused_line a.number a.in_file a.in_record a.in_field a.at_offset)
