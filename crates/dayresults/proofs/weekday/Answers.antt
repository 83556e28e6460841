-- `dayresults::weekday` hands on what `weekday_of` answers, case by case.
use Rattle.calendar.specs.Answers.{numbered_weekday}
use Rattle.dayresults.specs.Results.{weekday_result}
use Rattle.dayresults.proofs.weekday.Goals as goal

pub returns-in-Some : goal.returns-in-Some
unfolding weekday_result numbered_weekday
returns-in-Some c = rw (← c.weekday_of.ensures, c.in-Some.is)

pub returns-in-None : goal.returns-in-None
unfolding weekday_result numbered_weekday
returns-in-None c = rw (← c.weekday_of.ensures, c.in-None.is)
