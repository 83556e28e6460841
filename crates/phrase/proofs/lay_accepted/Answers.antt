-- `phrase::lay_accepted` meets its contract: each text with its number stands behind the last, so they are one lay.
use native.Mathlib.Nat.{zero-add}
use mathlib.Core.Path.{◌∙◌}
use native.Mathlib.Omega.{arith}
use Rattle.phrase.specs.Phrases.{accepted_line}
use Rattle.phrase.proofs.LayLaws.{laid_five}
use Rattle.phrase.proofs.lay_accepted.Goals as goal

pub returns : goal.returns
unfolding accepted_line
returns c =
    let d = c.args.d.now in
    let l = laid_five d _ _ _ _ _ 0 c.lay_number-a.result c.lay_number-b.result c.lay_number-e.result c.lay_number-f.result c.lay.result _ _ _ _ _ (c.lay_number-a.ensures.0, c.lay_number-a.ensures.1) (c.lay_number-b.ensures.0, c.lay_number-b.ensures.1) (c.lay_number-e.ensures.0, c.lay_number-e.ensures.1) (c.lay_number-f.ensures.0, c.lay_number-f.ensures.1) c.lay.ensures (omega arith) in
    (l.0, l.1 ∙ zero-add _, omega arith)
