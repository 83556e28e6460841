-- `signresults::week` hands on what `week_of` answers, case by case.
use Rattle.calendar.specs.Answers.{numbered_week}
use Rattle.signresults.specs.Results.{week_result}
use Rattle.signresults.proofs.Bits.{byte_bit}
use Rattle.signresults.proofs.week.Goals as goal

pub returns-in-Some : goal.returns-in-Some
unfolding week_result numbered_week
returns-in-Some c = rw (← c.week_of.ensures, c.in-Some.is, c.from.ensures, byte_bit)

pub returns-in-None : goal.returns-in-None
unfolding week_result numbered_week
returns-in-None c = rw (← c.week_of.ensures, c.in-None.is)
