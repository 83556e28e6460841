-- `find::used_before` meets its contract: the first record with the key stands before this one, or it is this one.
use mathlib.Core.Path.{sym, ◌∙◌}
use Rattle.keys.proofs.KeyFileLaws.{key_here}
use Rattle.find.proofs.FindLaws.{back_at, back_nothing}
use Rattle.find.proofs.used_before.Goals as goal

pub returns-in-Some : goal.returns-in-Some
returns-in-Some c =
    let k = c.key_at in
    let a = c.args in
    back_at a.file a.s.now a.at c.requires.0.keyed c.requires.1 c.requires.2 k.result k.ensures _ (sym c.in-Some.is ∙ c.first_ranked-hit.ensures)

pub returns-in-None : goal.returns-in-None
returns-in-None c =
    let k = c.key_at in
    let a = c.args in
    back_nothing a.file a.s.now a.at c.requires.0.keyed c.requires.1 c.requires.2 k.result k.ensures (sym c.in-None.is ∙ c.first_ranked-hit.ensures)

pub key_at-requires : goal.key_at-requires
key_at-requires c = key_here _ _ _ c.requires.0.keyed c.requires.1 c.requires.2

pub first_ranked-hit-requires : goal.first_ranked-hit-requires
first_ranked-hit-requires c = (c.requires.0, c.requires.1, c.key_at.ensures.low)
