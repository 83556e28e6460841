-- `faulty::first_amiss` meets its contract. The loop's invariant: the first field from f on with which something is wrong is the first
-- of all.
use mathlib.Core.Path.{sym, ◌∙◌}
use Prim.Native.Nat.{◌+◌}
use native.Mathlib.Omega.{arith}
use Rattle.amiss.proofs.RecordLaws.{record_later}
use Rattle.recall.proofs.FieldLaws.{amiss_start, amiss_turn, amiss_hit, amiss_done}
use Rattle.faulty.proofs.first_amiss.Goals as goal

pub loop-f-init : goal.loop-f-init
loop-f-init c = (c.requires.known.looks.lasts, amiss_start _ c.args.file _ _ _ c.links_in-n.ensures)

pub amiss_at-requires : goal.amiss_at-requires
amiss_at-requires c = record_later c.requires _ c.loop-f.invariant.0

pub returns-then-amiss_at-ne0 : goal.returns-then-amiss_at-ne0
returns-then-amiss_at-ne0 c =
    let x = c.amiss_at.ensures in
    (sym (amiss_hit _ c.args.file _ c.loop-f.f _ (omega arith) (λ e. c.if-amiss_at-ne0.true (x.0 ∙ e))) ∙ c.loop-f.invariant.1, x.1)

pub loop-f-preserved : goal.loop-f-preserved
loop-f-preserved c =
    let x = c.amiss_at.ensures in
    (x.1, sym (amiss_turn _ c.args.file _ c.loop-f.f _ (omega arith) (sym x.0 ∙ c.if-amiss_at-ne0.false)) ∙ c.loop-f.invariant.1)

pub returns : goal.returns
returns c =
    let i = c.loop-f.invariant in
    (sym (amiss_done _ c.args.file _ c.loop-f.f _ (omega arith)) ∙ i.1, i.0)

pub returns-else-amiss_at-ne0 : goal.returns-else-amiss_at-ne0
returns-else-amiss_at-ne0 c =
    let x = c.amiss_at.ensures in
    let f = c.loop-f.f in
    let on = sym (amiss_turn _ c.args.file _ f _ (omega arith) (sym x.0 ∙ c.if-amiss_at-ne0.false)) ∙ c.loop-f.invariant.1 in
    (sym (amiss_done _ c.args.file _ (f + 1) _ (omega arith)) ∙ on, x.1)
