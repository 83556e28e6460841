-- `find::with_two` meets its contract: it asks for the key's rank.
use mathlib.Core.Path.{sym, ◌∙◌}
use mathlib.Core.List.{[], ◌∷◌}
use Rattle.find.proofs.FindLaws.{rank_two, small_two, by_key}
use Rattle.find.proofs.with_two.Goals as goal

pub returns : goal.returns
returns c =
    let a = c.args in
    let f = c.requires.0.serves.keyed in
    let small = small_two a.a a.b c.requires.1 c.requires.2 in
    c.first_ranked.ensures ∙ by_key a.file (a.a ∷ a.b ∷ []) _ _ f.keyed f.keys small (sym c.requires.0.numbers) (rank_two a.a a.b)
