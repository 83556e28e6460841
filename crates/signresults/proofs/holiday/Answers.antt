-- `signresults::holiday` hands on what `holiday` answers, case by case.
use Rattle.calendar.specs.Answers.{numbered_whether}
use Rattle.signresults.specs.Results.{holiday_result}
use Rattle.signresults.proofs.Bits.{byte_bit}
use Rattle.signresults.proofs.holiday.Goals as goal

pub returns-in-Some : goal.returns-in-Some
unfolding holiday_result numbered_whether
returns-in-Some c = rw (← c.holiday.ensures, c.in-Some.is, c.from.ensures, byte_bit)

pub returns-in-None : goal.returns-in-None
unfolding holiday_result numbered_whether
returns-in-None c = rw (← c.holiday.ensures, c.in-None.is)
