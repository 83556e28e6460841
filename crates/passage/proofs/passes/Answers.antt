-- `passage::passes` meets its contract: no record was found yet, no link is remembered, and the file is gone through.
use native.Mathlib.Omega.{arith}
use Rattle.recall.proofs.RecallLaws.{recalls_zeros}
use Rattle.faulty.proofs.StageLaws.{lasts_start}
use Rattle.passage.proofs.passes.Goals as goal

pub passes_with-requires : goal.passes_with-requires
passes_with-requires c =
    let p = c.requires in
    (p.0, p.1, record { sound = p.2; looks = record { size = p.3; routes = p.4; lasts = lasts_start _ p.2 }; stops = p.5 }, recalls_zeros _ 4093 (omega arith))
