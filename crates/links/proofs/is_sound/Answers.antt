-- `links::is_sound` meets its contract.
use mathlib.Core.Path.{◌≡◌, refl}
use mathlib.Core.Bool.{false}
use lib.Dec.{eqb}
use Rattle.link.specs.Stage.{numbered_linked}
use Rattle.link.specs.declared.Linked.{Linked}
use Rattle.links.proofs.is_sound.Goals as goal

-- any other answer has a number
not_sound : (found : Linked) → (found ≡ Linked.Sound → ⊥) → false ≡ eqb (numbered_linked found).number 0
unfolding numbered_linked
not_sound Linked.Sound n = absurd (n refl)
not_sound (Linked.Used file k) n = refl
not_sound (Linked.Dangling file k f) n = refl
not_sound (Linked.Misplaced file k f) n = refl

pub returns-in-Sound : goal.returns-in-Sound
unfolding numbered_linked
returns-in-Sound c = rw c.in-Sound.is

pub returns-in_default : goal.returns-in_default
returns-in_default c = not_sound c.args.found c.in_default.not-Sound
