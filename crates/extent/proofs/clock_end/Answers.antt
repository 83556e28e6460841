-- `extent::clock_end` meets its contract: four bytes that are a time.
use native.Mathlib.Omega.{arith}
use mathlib.Core.Path.{sym, ◌∙◌}
use Rattle.extent.proofs.TextLaws.{time_to}
use Rattle.extent.proofs.clock_end.Goals as goal

pub returns-then-is_time : goal.returns-then-is_time
returns-then-is_time c =
    let a = c.args in
    time_to a.s.now a.at _ (sym c.is_time.ensures ∙ c.if-is_time.true) (omega arith) (omega arith)
