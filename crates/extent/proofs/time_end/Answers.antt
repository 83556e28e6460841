-- `extent::time_end` meets its contract: no text at all, one byte of two, or four digits.
use mathlib.Core.Path.{sym, ◌∙◌}
use Rattle.extent.proofs.TextLaws.{no_text, no_time, passed_to, aside_to}
use Rattle.extent.proofs.time_end.Goals as goal
use Rattle.extent.proofs.time_end.Goals.{then-stands-2, else-stands-2}

pub returns-then-stands : goal.returns-then-stands
returns-then-stands c = no_text _ c.args.s.now c.args.at no_time c.requires

pub returns-then-stands-3 : goal.returns-then-stands-3
returns-then-stands-3 c =
    let a = c.args in
    elim c.if-stands-2.branch [
      | then-stands-2 w ↦
          passed_to a.s.now a.at (sym c.stands-else-stands.ensures.0 ∙ w.if-stands-2.true) (c.stands-else-stands.ensures.1 w.if-stands-2.true)
      | else-stands-2 w ↦
          let h = sym w.value-is ∙ c.if-stands-3.true in
          aside_to a.s.now a.at (sym w.stands-else-stands-2.ensures.0 ∙ h) (w.stands-else-stands-2.ensures.1 h)
    ]
