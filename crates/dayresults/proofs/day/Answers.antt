-- `dayresults::day` hands on what `day_of` answers, case by case.
use Rattle.calendar.specs.Answers.{numbered_day}
use Rattle.dayresults.specs.Results.{day_result}
use Rattle.dayresults.proofs.day.Goals as goal

pub returns-in-Some : goal.returns-in-Some
unfolding day_result numbered_day
returns-in-Some c = rw (← c.day_of.ensures, c.in-Some.is)

pub returns-in-None : goal.returns-in-None
unfolding day_result numbered_day
returns-in-None c = rw (← c.day_of.ensures, c.in-None.is)
