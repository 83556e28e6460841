-- `passage::passes_with` meets its contract. The loop's invariant: if the file passes from `at` on, it passes.
use mathlib.Core.Path.{refl, sym}
use native.Mathlib.Omega.{arith}
use Rattle.laws.specs.Tests.{never}
use Rattle.file.specs.Files.{fields_of}
use Rattle.readany.proofs.PlaceLaws.{read_as}
use Rattle.sweep.specs.Sweep.{Fielded}
use Rattle.sweep.proofs.SoundLaws.{fielded, kinded}
use Rattle.amiss.proofs.RecordLaws.{later}
use Rattle.passage.proofs.PassLaws.{passes_all, passes_end, passes_step}
use Rattle.passage.proofs.passes_with.Goals as goal

pub loop-at-init : goal.loop-at-init
loop-at-init c =
    let p = c.requires in
    (omega arith, omega arith, (λ w. w), p.2.looks.lasts, p.3)

pub read_on-requires : goal.read_on-requires
read_on-requires c =
    (c.loop-at.invariant.0, fielded c.args.file _ c.fields_of-n.ensures (omega (arith, c.requires.0)) c.requires.1)

pub returns-in_default : goal.returns-in_default
returns-in_default c t = never t

pub key_of-k-requires : goal.key_of-k-requires
key_of-k-requires c =
    let n = fields_of c.args.file in
    let fields : Fielded c.args.file n = fielded c.args.file n refl (omega (arith, c.requires.0)) c.requires.1 in
    let r = read_as refl (sym c.fields_of-n.ensures) c.in-Some.ensures in
    (c.requires.0, kinded c.args.file n _ _ _ _ fields r)

pub follows-requires : goal.follows-requires
follows-requires c = (c.loop-at.invariant.1, c.key_of-k.ensures.low)

pub stands_well-requires : goal.stands_well-requires
stands_well-requires c =
    let n = fields_of c.args.file in
    let fields : Fielded c.args.file n = fielded c.args.file n refl (omega (arith, c.requires.0)) c.requires.1 in
    let p = c.requires in
    let i = c.loop-at.invariant in
    let r = read_as refl (sym c.fields_of-n.ensures) c.in-Some.ensures in
    (record { known = later p.2 _ i.3; kinded = kinded c.args.file n _ _ _ _ fields r }, i.4, p.0, p.1)

pub returns-then-not-follows : goal.returns-then-not-follows
returns-then-not-follows c t = never t

pub loop-at-smaller : goal.loop-at-smaller
loop-at-smaller c =
    let r = c.in-Some.ensures in
    omega (arith, r.far, r.near)

pub loop-at-preserved : goal.loop-at-preserved
loop-at-preserved c =
    let file = c.args.file in
    let n = fields_of file in
    let fields : Fielded file n = fielded file n refl (omega (arith, c.requires.0)) c.requires.1 in
    let i = c.loop-at.invariant in
    let k = c.key_of-k.ensures in
    let r = read_as refl (sym c.fields_of-n.ensures) c.in-Some.ensures in
    let w = c.stands_well.ensures in
    let m = w.0 c.if-not-stands_well.false in
    let h = c.follows.ensures c.if-not-follows.false in
    (r.near, k.low, (λ x. i.2 (passes_step _ file _ _ _ _ _ _ fields r m.0 m.1 k h x)), w.1, w.2)

pub returns : goal.returns
returns c t =
    let file = c.args.file in
    let n = fields_of file in
    let fields : Fielded file n = fielded file n refl (omega (arith, c.requires.0)) c.requires.1 in
    passes_all _ file _ _ (c.loop-at.invariant.2 (passes_end _ file _ _ _ fields c.loop-at-test.false))
