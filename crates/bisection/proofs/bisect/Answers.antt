-- `bisection::bisect` meets its contract: the search has passed nothing yet.
use Rattle.keys.specs.Ranks.{rank_key}
use Rattle.bisection.proofs.SoughtLaws.{start, sought_none}
use Rattle.bisection.proofs.bisect.Goals as goal

pub narrow-requires : goal.narrow-requires
narrow-requires c =
    let a = c.args in
    (c.requires.0, c.requires.1, sought_none a.file a.s.now (rank_key a.x) 0 (start a.file a.s.now c.requires.0), c.requires.2, c.requires.3)

pub first_key-below-requires : goal.first_key-below-requires
first_key-below-requires c = (c.requires.0, c.requires.2)
