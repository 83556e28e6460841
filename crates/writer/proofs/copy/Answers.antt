-- `writer::copy` meets its contract. The loop's invariant: the first `i` bytes of the text are laid, and nothing else.
use mathlib.Core.Path.{refl, sym, ◌∙◌}
use Prim.Native.Nat.{◌≤◌}
use native.Mathlib.Omega.{arith}
use lib.ListN.{length, length-set}
use lib.Seq.{take_all}
use Rattle.laws.specs.Splice.{splice_none, copy_step}
use Rattle.writer.proofs.copy.Goals as goal

pub loop-i-init : goal.loop-i-init
loop-i-init c = (sym (splice_none _ _), refl)

pub loop-i-preserved : goal.loop-i-preserved
loop-i-preserved c =
    let a = c.args in
    let l = c.loop-i in
    (rw l.invariant.0 (copy_step a.d.now a.at a.t.now l.i c.requires (omega arith)), simp length-set l.invariant.1)

pub returns : goal.returns
returns c =
    let a = c.args in
    let h : length a.t.now ≤ c.loop-i.i = omega arith in
    c.loop-i.invariant.0 ∙ rw (take_all _ _ h)
