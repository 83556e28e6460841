-- `onward::close_on` meets its contract: the text ends at a quote, and what follows the field stands behind it.
use mathlib.Core.Path.{sym, ◌∙◌}
use Rattle.onward.proofs.StepLaws.{due_next}
use Rattle.onward.proofs.close_on.Goals as goal

pub returns : goal.returns
returns c =
    let a = c.args in
    let h = sym c.stands-else-not-stands.ensures.0 ∙ c.if-not-stands-2.false in
    let w = c.stands-else-not-stands.ensures.1 c.if-not-stands-2.false in
    let m = rw c.follower_of.ensures at h in
    due_next a.file a.n a.s.now a.start a.places.now a.f a.at c.requires.0 c.requires.1 a.end c.requires.2 (sym c.stands.ensures.0 ∙ c.if-not-stands.false) m w
