-- `find::first_ranked` meets its contract: each way finds the same.
use Rattle.find.proofs.first_ranked.Goals as goal

pub among_rising-requires : goal.among_rising-requires
among_rising-requires c = let p = c.requires in (p.0.keyed, p.0.up c.if-rises.true, p.1, p.2)

pub lower-entry-requires : goal.lower-entry-requires
lower-entry-requires c = let p = c.requires in (p.0.keyed, p.0.index c.if-part-gt0.true, p.2)

pub at_entry-requires : goal.at_entry-requires
at_entry-requires c = let p = c.requires in (p.0.keyed, p.0.index c.if-part-gt0.true, c.lower-entry.ensures, p.2)
