-- `fitting::all_met` meets its contract. The loop's invariant: the first fault of the records from `at` on is that of the file.
use mathlib.Core.Path.{refl}
use mathlib.Core.Bool.{false}
use Prim.Native.Nat.{ℕ, ◌+◌}
use native.Mathlib.Omega.{arith}
use Rattle.laws.specs.Tests.{never}
use Rattle.faulty.proofs.StageLaws.{left_start, left_end, left_record, left_asked, left_known, left_next, used_none}
use Rattle.fitting.proofs.all_met.Goals as goal

pub returns-then-not-is_apart : goal.returns-then-not-is_apart
returns-then-not-is_apart c = let p = c.requires in ((λ e. never e), p.2.looks.lasts, p.3)

pub loop-at-init : goal.loop-at-init
loop-at-init c =
    let file : ℕ = c.args.file in
    let p = c.requires in
    ((1, left_start _ file _ c.file_of-s.ensures (p.2.sound file p.0 p.1).legal), p.2.looks.lasts, p.3)

pub cut-at-requires : goal.cut-at-requires
cut-at-requires c =
    let file : ℕ = c.args.file in
    left_record _ file _ _ _ c.loop-at.invariant.0.1 c.loop-at-test.true _ c.fields_of-n.ensures

pub record_met-requires : goal.record_met-requires
record_met-requires c =
    let file : ℕ = c.args.file in
    let p = c.requires in
    (left_known _ file _ _ _ _ _ _ _ c.loop-at.invariant.0.1 c.fields_of-n.ensures c.cut-at.ensures _ _ _ _ p.0 p.1 c.file_of-s.ensures p.2 c.loop-at.invariant.1, c.loop-at.invariant.2, p.0, p.1)

pub returns-then-not-record_met : goal.returns-then-not-record_met
returns-then-not-record_met c = let x = c.record_met.ensures in ((λ e. never e), x.1, x.2)

pub loop-at-smaller : goal.loop-at-smaller
loop-at-smaller c =
    let x = c.cut-at.ensures in
    omega (arith, x.far, x.near)

pub loop-at-preserved : goal.loop-at-preserved
loop-at-preserved c =
    let file : ℕ = c.args.file in
    let p = c.requires in
    let i = c.loop-at.invariant in
    let a = c.record_met in
    let e = c.file_of-s.ensures in
    let q = left_asked _ file _ _ _ i.0.1 c.loop-at-test.true _ _ _ p.0 e p.2 in
    let u = used_none file _ _ _ _ q (c.is_apart.ensures (c.if-not-is_apart.false)) in
    ((i.0.0 + 1, left_next _ file _ _ _ _ _ _ _ i.0.1 c.fields_of-n.ensures c.cut-at.ensures false u refl _ refl (a.ensures.0 (c.if-not-record_met.false))), a.ensures.1, a.ensures.2)

pub returns : goal.returns
returns c =
    let file : ℕ = c.args.file in
    let i = c.loop-at.invariant in
    ((λ e. left_end _ file _ _ _ i.0.1 c.loop-at-test.false), i.1, i.2)

pub is_apart-requires : goal.is_apart-requires
is_apart-requires c = c.requires.2.looks.size
