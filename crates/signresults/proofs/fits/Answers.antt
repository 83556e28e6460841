-- `signresults::fits` hands on what `fits` answers, case by case.
use Rattle.calendar.specs.Answers.{numbered_whether}
use Rattle.signresults.specs.Results.{fits_result}
use Rattle.signresults.proofs.Bits.{byte_bit}
use Rattle.signresults.proofs.fits.Goals as goal

pub returns-in-Some : goal.returns-in-Some
unfolding fits_result numbered_whether
returns-in-Some c = rw (← c.fits.ensures, c.in-Some.is, c.from.ensures, byte_bit)

pub returns-in-None : goal.returns-in-None
unfolding fits_result numbered_whether
returns-in-None c = rw (← c.fits.ensures, c.in-None.is)
