-- `find::with_three` meets its contract: it asks for the key's rank.
use mathlib.Core.Path.{sym, ◌∙◌}
use mathlib.Core.List.{[], ◌∷◌}
use Rattle.find.proofs.FindLaws.{rank_three, small_three, by_key}
use Rattle.find.proofs.with_three.Goals as goal

pub returns : goal.returns
returns c =
    let a = c.args in
    let f = c.requires.0.serves.keyed in
    let small = small_three a.a a.b a.c c.requires.1 c.requires.2 c.requires.3 in
    c.first_ranked.ensures
    ∙ by_key a.file (a.a ∷ a.b ∷ a.c ∷ []) _ _ f.keyed f.keys small (sym c.requires.0.numbers) (rank_three a.a a.b a.c)
