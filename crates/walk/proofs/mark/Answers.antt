-- `walk::mark` meets its contract. The loop's invariant: `start` is where text i starts, the places before i say where theirs do, and
-- those from i on are as they were.
use mathlib.Core.Path.{◌≡◌, ap}
use Prim.Native.Nat.{ℕ, ◌+◌, ◌≤◌}
use native.Mathlib.Omega.{arith}
use lib.ListN.{length, length-set}
use Rattle.walk.proofs.StartLaws.{text_start, start_first, mark_none, mark_one}
use Rattle.walk.proofs.WalkLaws.{first_record, text_at, near_at, cuts}
use Rattle.walk.proofs.mark.Goals as goal

pub loop-i-init : goal.loop-i-init
loop-i-init c =
    let a = c.args in
    let r = first_record a.n a.s.now a.at in
    (start_first a.at r, mark_none a.at r _)

pub text_end-start-requires : goal.text_end-start-requires
text_end-start-requires c =
    let near : c.loop-i.start + 1 ≤ length c.args.s.now =
    omega (arith, near_at c.args.n c.args.s.now c.args.at c.requires.0 c.loop-i.i) in
    omega (arith, near)

pub loop-i-preserved : goal.loop-i-preserved
loop-i-preserved c =
    let next_start : c.text_end-start.result + 3 ≡ text_start c.args.at (first_record c.args.n c.args.s.now c.args.at) (c.loop-i.i + 1) =
    let l = c.loop-i in
    let t = text_at c.args.n c.args.s.now c.args.at c.requires.0 l.i c.loop-i-test.true in
    let g = rw l.invariant.0 at c.text_end-start.ensures.place in
    omega (arith, t.size, t.ends) in
    (next_start, mark_one _ _ _ _ _ _ c.loop-i.invariant.1 (omega arith) c.loop-i.invariant.0)

pub returns : goal.returns
returns c =
    let l = c.loop-i in
    let e : l.i ≡ c.args.n = omega arith in
    let start = rw e at l.invariant.0 in
    let m = mark_one _ _ _ _ _ _ (rw e at l.invariant.1) c.requires.1 start in
    cuts c.args.n c.args.s.now c.args.at c.requires.0 _ _ m _ (ap (λ (x : ℕ). x + 1) start)

pub overflow_add-start-in-loop-i : goal.overflow_add-start-in-loop-i
overflow_add-start-in-loop-i c =
    let next_start : c.text_end-start.result + 3 ≡ text_start c.args.at (first_record c.args.n c.args.s.now c.args.at) (c.loop-i.i + 1) =
    let l = c.loop-i in
    let t = text_at c.args.n c.args.s.now c.args.at c.requires.0 l.i c.loop-i-test.true in
    let g = rw l.invariant.0 at c.text_end-start.ensures.place in
    omega (arith, t.size, t.ends) in
    let next_near : c.text_end-start.result + 4 ≤ length c.args.s.now =
    omega (arith, next_start, near_at c.args.n c.args.s.now c.args.at c.requires.0 (c.loop-i.i + 1)) in
    omega (arith, next_near)

pub overflow_add-result : goal.overflow_add-result
overflow_add-result c =
    let near : c.loop-i.start + 1 ≤ length c.args.s.now =
    omega (arith, near_at c.args.n c.args.s.now c.args.at c.requires.0 c.loop-i.i) in
    omega (arith, near)

pub shape_of-places : goal.shape_of-places
shape_of-places c = simp length-set c.loop-i.invariant.1.size
