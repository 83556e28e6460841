-- `links::file_fault` meets its contract: no fault in the order of the index is none, nor is it in the file's own, and else that order tells.
use mathlib.Core.Path.{sym}
use Rattle.link.specs.Stage.{numbered_linked}
use Rattle.amiss.proofs.RecordLaws.{later}
use Rattle.links.proofs.file_fault.Goals as goal
use Rattle.links.proofs.file_fault.Goals.{then-all_fit-via-then-all_fit, then-all_fit-via-else-all_fit+then-all_met}

pub returns-then-all_fit : goal.returns-then-all_fit
unfolding numbered_linked
returns-then-all_fit c =
    elim c.then-all_fit.branch [
      | then-all_fit-via-then-all_fit w ↦
          let x = c.all_fit.ensures in
          (sym (x.0 w.if-all_fit.true), rw w.last-is x.1, rw w.table-is x.2)
      | then-all_fit-via-else-all_fit+then-all_met w ↦
          let x = w.all_met.ensures in
          (sym (x.0 w.if-all_met.true), rw w.last-is x.1, rw w.table-is x.2)
    ]

pub all_met-requires : goal.all_met-requires
all_met-requires c =
    let p = c.requires in
    (p.0, p.1, later p.2 _ c.all_fit.ensures.1, c.all_fit.ensures.2)

pub file_order_fault-requires : goal.file_order_fault-requires
file_order_fault-requires c =
    let p = c.requires in
    (p.0, p.1, later p.2 _ c.all_met.ensures.1)

pub returns : goal.returns
returns c =
    (c.file_order_fault.ensures.0, c.file_order_fault.ensures.1, c.all_met.ensures.2)

pub all_fit-requires : goal.all_fit-requires
all_fit-requires c = c.requires
