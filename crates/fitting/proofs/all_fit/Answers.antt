-- `fitting::all_fit` meets its contract. The loop's invariant: nothing is wrong with the records that the entries below i name.
use mathlib.Core.Path.{sym}
use native.Mathlib.Omega.{arith}
use borrow.Author.Tests.{eqb-false}
use Rattle.laws.specs.Tests.{never}
use Rattle.fitting.proofs.HintLaws.{hinted, fit_all, entry_record, entry_known, fit_more}
use Rattle.fitting.proofs.all_fit.Goals as goal

pub bounds-paths-file : goal.bounds-paths-file
bounds-paths-file c =
    omega (arith, c.requires.2.looks.size, c.if-file-gt10.false)

pub returns-then-file-gt10 : goal.returns-then-file-gt10
returns-then-file-gt10 c = let p = c.requires in ((λ e. never e), p.2.looks.lasts, p.3)

pub index_of-part-requires : goal.index_of-part-requires
index_of-part-requires c =
    let p = c.requires in
    let w = p.2.looks.routes c.args.file (p.0, c.if-file-gt10.false) in
    (omega (arith, c.if-file-gt10.false), p.2.looks.size, w.ends, w.near)

pub returns-then-is_empty : goal.returns-then-is_empty
returns-then-is_empty c = let p = c.requires in ((λ e. never e), p.2.looks.lasts, p.3)

pub loop-i-init : goal.loop-i-init
loop-i-init c =
    let p = c.requires in
    let q = hinted _ c.args.file _ _ _ _ _ p.0 c.if-file-gt10.false p.2 c.file_of-s.ensures c.if-paths-file-ne2.false c.index_of-part.ensures (eqb-false _ _ (sym c.if-is_empty.ensures)) in
    (q, (λ j h. absurd (omega arith)), p.2.looks.lasts, p.3)

pub returns-then-not-list_goes_on : goal.returns-then-not-list_goes_on
returns-then-not-list_goes_on c = let v = c.loop-i.invariant in ((λ e. never e), v.2, v.3)

pub overflow_cast-part : goal.overflow_cast-part
overflow_cast-part c = omega (arith, c.type_inv.part c.loop-i.i)

pub cut-requires : goal.cut-requires
cut-requires c = entry_record _ c.args.file _ _ _ c.loop-i.invariant.0 (omega arith) _ c.fields_of-n.ensures

pub record_met-requires : goal.record_met-requires
record_met-requires c =
    let p = c.requires in
    let i = c.loop-i.invariant in
    (entry_known _ c.args.file _ _ _ i.0 (omega arith) _ _ _ _ c.fields_of-n.ensures c.cut.ensures _ _ _ _ p.2 i.2, i.3, p.0, p.1)

pub returns-then-not-record_met : goal.returns-then-not-record_met
returns-then-not-record_met c = let x = c.record_met.ensures in ((λ e. never e), x.1, x.2)

pub loop-i-preserved : goal.loop-i-preserved
loop-i-preserved c =
    let i = c.loop-i.invariant in
    let a = c.record_met.ensures in
    (i.0, fit_more _ c.args.file _ _ _ i.0 (omega arith) _ _ _ _ c.fields_of-n.ensures c.cut.ensures i.1 (a.0 c.if-not-record_met.false), a.1, a.2)

pub returns : goal.returns
returns c =
    let i = c.loop-i.invariant in
    ((λ e. fit_all _ c.args.file _ _ _ i.0 i.1 (omega arith)), i.2, i.3)
