-- Document 01's number and place for each case of a fault.
use Rattle.std.specs.Prelude.{[]}
use Rattle.laws.specs.Numbered.{Numbered, answered, refused_in}
use Rattle.file.specs.Answers.{numbered}
use Rattle.fault.specs.declared.Fault.{Fault}

unfoldable pub numbered_fault : Fault → Numbered
numbered_fault Fault.None = answered []
numbered_fault (Fault.File why) = numbered why
numbered_fault (Fault.Version k f) = refused_in 4 1 k f
numbered_fault (Fault.Unkind file k f) = refused_in 5 file k f
numbered_fault (Fault.Broken file k) = refused_in 6 file k 0
numbered_fault (Fault.Used file k) = refused_in 7 file k 0
numbered_fault (Fault.Dangling file k f) = refused_in 8 file k f
numbered_fault (Fault.Misplaced file k f) = refused_in 9 file k f
numbered_fault (Fault.Days k) = refused_in 10 6 k 0
numbered_fault (Fault.Stops k) = refused_in 11 6 k 0
