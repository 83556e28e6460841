-- `recall::record_met` meets its contract. The loop's invariant: the first field from f on with which something is wrong is the first
-- of all.
use mathlib.Core.Path.{sym, ◌∙◌}
use Prim.Native.Nat.{◌+◌}
use native.Mathlib.Omega.{arith}
use Rattle.laws.specs.Tests.{never}
use Rattle.link.proofs.MatchLaws.{links_few}
use Rattle.amiss.proofs.RecordLaws.{record_later, first_number}
use Rattle.recall.proofs.FieldLaws.{amiss_from, amiss_turn, amiss_done}
use Rattle.recall.proofs.record_met.Goals as goal

pub loop-f-init : goal.loop-f-init
loop-f-init c =
    let n = c.links_in-n.ensures in
    let k = c.first_link-f.ensures in
    (c.requires.0.known.looks.lasts, c.requires.1, amiss_from _ c.args.file _ _ _ _ n k.0 (omega (arith, n, k.1)) k.2)

pub number_of-a-requires : goal.number_of-a-requires
number_of-a-requires c =
    (c.requires.0.kinded, first_number c.args.file c.requires.2 c.requires.3)

pub field_met-requires : goal.field_met-requires
field_met-requires c =
    let p = c.requires in
    let i = c.loop-f.invariant in
    let a = c.number_of-a.ensures in
    (record_later p.0 _ i.0, i.1, p.3, a.1, a.0, omega (arith, c.first_link-f.ensures.0), omega (arith, c.links_in-n.ensures, links_few c.args.file))

pub returns-then-not-field_met : goal.returns-then-not-field_met
returns-then-not-field_met c =
    let x = c.field_met.ensures in
    ((λ e. never e), x.1, x.2)

pub loop-f-preserved : goal.loop-f-preserved
loop-f-preserved c =
    let i = c.loop-f.invariant in
    let m = c.field_met.ensures in
    (m.1, m.2, sym (amiss_turn _ c.args.file _ c.loop-f.f _ (omega arith) (m.0 c.if-not-field_met.false)) ∙ i.2)

pub returns : goal.returns
returns c =
    let i = c.loop-f.invariant in
    ((λ e. sym i.2 ∙ amiss_done _ c.args.file _ c.loop-f.f _ (omega arith)), i.0, i.1)

pub returns-else-not-field_met : goal.returns-else-not-field_met
returns-else-not-field_met c =
    let m = c.field_met.ensures in
    let f = c.loop-f.f in
    ((λ e. sym c.loop-f.invariant.2 ∙ amiss_turn _ c.args.file _ f _ (omega arith) (m.0 c.if-not-field_met.false) ∙ amiss_done _ c.args.file _ (f + 1) _ (omega arith)), m.1, m.2)
