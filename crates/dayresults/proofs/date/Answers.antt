-- `dayresults::date` hands on what `date_of` answers, case by case.
use Rattle.calendar.specs.Answers.{numbered_date}
use Rattle.dayresults.specs.Results.{date_result}
use Rattle.dayresults.proofs.date.Goals as goal

pub returns-in-Some : goal.returns-in-Some
unfolding date_result numbered_date
returns-in-Some c = rw (← c.date_of.ensures, c.in-Some.is)

pub returns-in-None : goal.returns-in-None
unfolding date_result numbered_date
returns-in-None c = rw (← c.date_of.ensures, c.in-None.is)
