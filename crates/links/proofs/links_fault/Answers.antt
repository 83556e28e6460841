-- `links::links_fault` meets its contract: no record was found yet, no link is remembered, and the files are gone through.
use native.Mathlib.Omega.{arith}
use Rattle.recall.proofs.RecallLaws.{recalls_zeros}
use Rattle.faulty.proofs.StageLaws.{lasts_start}
use Rattle.links.proofs.links_fault.Goals as goal

pub files_fault-requires : goal.files_fault-requires
files_fault-requires c =
    let p = c.requires in
    (p.0, record { size = p.1; routes = p.2; lasts = lasts_start _ p.0 }, recalls_zeros _ 4093 (omega arith))
