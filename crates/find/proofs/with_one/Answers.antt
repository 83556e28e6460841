-- `find::with_one` meets its contract: it asks for the key's rank.
use mathlib.Core.Path.{sym, ◌∙◌}
use mathlib.Core.List.{[], ◌∷◌}
use Rattle.find.proofs.FindLaws.{rank_one, small_one, by_key}
use Rattle.find.proofs.with_one.Goals as goal

pub returns : goal.returns
returns c =
    let a = c.args in
    let f = c.requires.0.serves.keyed in
    c.first_ranked.ensures ∙ by_key a.file (a.a ∷ []) _ _ f.keyed f.keys (small_one a.a c.requires.1) (sym c.requires.0.numbers) (rank_one a.a)
