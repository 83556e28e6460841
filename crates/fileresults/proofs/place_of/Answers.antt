-- `fileresults::place_of` meets its contract, case by case.
use Rattle.file.specs.Answers.{numbered}
use Rattle.fileresults.specs.Results.{refused_place}
use Rattle.fileresults.proofs.place_of.Goals as goal

pub returns-in-TooLong : goal.returns-in-TooLong
unfolding numbered refused_place
returns-in-TooLong c = rw c.in-TooLong.is

pub returns-in-Unfit : goal.returns-in-Unfit
unfolding numbered refused_place
returns-in-Unfit c = rw c.in-Unfit.is

pub returns-in-CutShort : goal.returns-in-CutShort
unfolding numbered refused_place
returns-in-CutShort c = rw c.in-CutShort.is

pub returns-in-NoSuch : goal.returns-in-NoSuch
unfolding numbered refused_place
returns-in-NoSuch c = rw c.in-NoSuch.is

pub returns-in-NotPermitted : goal.returns-in-NotPermitted
unfolding numbered refused_place
returns-in-NotPermitted c = rw c.in-NotPermitted.is

pub returns-in-NoRoom : goal.returns-in-NoRoom
unfolding numbered refused_place
returns-in-NoRoom c = rw c.in-NoRoom.is
