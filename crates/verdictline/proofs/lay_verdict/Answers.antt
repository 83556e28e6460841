-- `verdictline::lay_verdict` meets its contract: one line for each case.
use Rattle.verdictline.proofs.VerdictLaws.{accepted_line_lem, refused_line_lem}
use Rattle.verdictline.proofs.lay_verdict.Goals as goal

pub returns-in-Accepted : goal.returns-in-Accepted
returns-in-Accepted c = rw (c.in-Accepted.is, accepted_line_lem c.in-Accepted.c) c.lay_accepted.ensures

pub returns-in-Refused : goal.returns-in-Refused
returns-in-Refused c =
    rw (c.in-Refused.is, refused_line_lem c.in-Refused.fault c.place_of.result c.place_of.ensures (rw c.in-Refused.is at c.requires.1)) c.lay_refused.ensures
