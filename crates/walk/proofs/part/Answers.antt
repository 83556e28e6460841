-- `walk::part` meets its contract: the part is what its places say, and stands in s.
use mathlib.Core.Path.{refl}
use Rattle.walk.specs.Walk.{part_of}
use Rattle.walk.proofs.part.Goals as goal

pub returns : goal.returns
unfolding part_of
returns c = refl
