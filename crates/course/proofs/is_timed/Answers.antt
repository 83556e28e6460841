-- `course::is_timed` meets its contract: of the texts of its kind a time alone has four bytes.
use Rattle.course.proofs.LeafLaws.{four_timed}
use Rattle.course.proofs.is_timed.Goals as goal

pub returns : goal.returns
returns c = four_timed _ c.requires
