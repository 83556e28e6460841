-- `lookup::remember` meets its contract: the library's choice is the one that theorems speak of.
use mathlib.Core.Path.{refl}
use Rattle.lookup.proofs.WayLaws.{same_choice}
use Rattle.lookup.proofs.remember.Goals as goal

pub returns : goal.returns
returns c =
    let h = c.args.hit in
    (refl, rw (c.unwrap_or.ensures, same_choice h.found _) refl)
