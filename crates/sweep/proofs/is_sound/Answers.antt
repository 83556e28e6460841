-- `sweep::is_sound` meets its contract. The loop's invariant: if the file is sound from `at` on, it is sound.
use mathlib.Core.Path.{sym, ◌∙◌}
use Prim.Native.Nat.{◌-◌}
use native.Mathlib.Omega.{arith}
use Rattle.laws.specs.Tests.{never}
use Rattle.sweep.proofs.SoundLaws.{sound_end, kinded, meeting, sound_step}
use Rattle.sweep.proofs.is_sound.Goals as goal

pub read_on-requires : goal.read_on-requires
read_on-requires c =
    (c.loop-at.invariant.0, c.requires)

pub meets_rules-requires : goal.meets_rules-requires
meets_rules-requires c =
    kinded c.args.file c.args.n c.args.s.now _ _ _ c.requires (rw c.in-Some.is at c.read_on.ensures)

pub loop-at-preserved : goal.loop-at-preserved
loop-at-preserved c =
    let r = rw c.in-Some.is at c.read_on.ensures in
    let m = meeting c.args.file c.args.n c.args.s.now _ _ _ c.requires r _ c.meets_rules.ensures in
    (r.near, λ w. c.loop-at.invariant.1 (sound_step c.args.file c.args.n c.args.s.now _ _ _ c.requires r w (sym m ∙ c.if-not-meets_rules.false)))

pub returns : goal.returns
returns c t =
    c.loop-at.invariant.1 (sound_end c.args.file c.args.n c.args.s.now c.loop-at.at c.requires c.loop-at-test.false)

pub loop-at-init : goal.loop-at-init
loop-at-init c = (omega arith, λ w. w)

pub returns-then-not-meets_rules : goal.returns-then-not-meets_rules
returns-then-not-meets_rules c t = never t

pub loop-at-smaller : goal.loop-at-smaller
loop-at-smaller c = let r = rw c.in-Some.is at c.read_on.ensures in omega (arith, r.far, r.near)
