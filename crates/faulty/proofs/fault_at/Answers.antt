-- `faulty::fault_at` meets its contract: what is wrong with a field is 8, or else it is 9.
use mathlib.Core.Path.{sym, ap, ◌∙◌}
use Prim.Native.Nat.{ℕ}
use Rattle.laws.specs.Numbered.{refused_in}
use Rattle.link.specs.Stage.{numbered_linked}
use Rattle.faulty.proofs.StageLaws.{amiss_nine}
use Rattle.faulty.proofs.fault_at.Goals as goal

pub returns-then-amiss_at-eq8 : goal.returns-then-amiss_at-eq8
unfolding numbered_linked
returns-then-amiss_at-eq8 c =
    let x = c.amiss_at in
    let a = c.args in
    (ap (λ (n : ℕ). refused_in n a.file a.k a.f) (sym c.if-amiss_at-eq8.true ∙ x.ensures.0), x.ensures.1)

pub returns : goal.returns
unfolding numbered_linked
returns c =
    let x = c.amiss_at in
    let a = c.args in
    (ap (λ (n : ℕ). refused_in n a.file a.k a.f) (sym (amiss_nine _ a.file _ a.f c.requires.1 (λ e. c.if-amiss_at-eq8.false (x.ensures.0 ∙ e)))), x.ensures.1)

pub amiss_at-requires : goal.amiss_at-requires
amiss_at-requires c = c.requires.0
