-- `clip::mark` meets its contract. The loop's invariant: `start` is where text i starts, the places before i say where theirs do, and those
-- from i on are as they were. Behind the loop text i is the last, and its line ends where the record does.
use mathlib.Core.Path.{◌≡◌, ◌∙◌}
use Prim.Native.Nat.{◌+◌, ◌-◌, ◌≤◌}
use native.Mathlib.Omega.{arith}
use lib.ListN.{length, length-set}
use Rattle.walk.proofs.StartLaws.{text_start, start_first, mark_none, mark_one}
use Rattle.walk.proofs.WalkLaws.{first_record, text_at, near_at, cuts}
use Rattle.clip.proofs.LineEnd.{line_end_lem}
use Rattle.clip.proofs.mark.Goals as goal

pub loop-i-init : goal.loop-i-init
loop-i-init c =
    let r = first_record c.args.n c.args.s.now c.args.at in
    (omega (arith, c.requires.0.legal.reads.some), start_first c.args.at r, mark_none c.args.at r _)

pub text_end-start-requires : goal.text_end-start-requires
text_end-start-requires c =
    let near : c.loop-i.start + 1 ≤ length c.args.s.now =
    omega (arith, near_at c.args.n c.args.s.now c.args.at c.requires.0 c.loop-i.i) in
    omega (arith, near)

pub loop-i-preserved : goal.loop-i-preserved
loop-i-preserved c =
    let next_start : c.text_end-start.result + 3 ≡ text_start c.args.at (first_record c.args.n c.args.s.now c.args.at) (c.loop-i.i + 1) =
    let l = c.loop-i in
    let t = text_at c.args.n c.args.s.now c.args.at c.requires.0 l.i (omega (arith, l.invariant.0)) in
    let g = rw l.invariant.1 at c.text_end-start.ensures.place in
    omega (arith, t.size, t.ends) in
    (omega arith, next_start, mark_one _ _ _ _ _ _ c.loop-i.invariant.2 (omega arith) c.loop-i.invariant.1)

pub returns : goal.returns
returns c =
    let last : c.loop-i.i + 1 ≡ c.args.n =
    omega (arith, c.loop-i.invariant.0) in
    let ended : c.line_after-next.result ≡ text_start c.args.at (first_record c.args.n c.args.s.now c.args.at) c.args.n + 1 =
    rw c.loop-i.invariant.1 at c.line_after-next.ensures
    ∙ line_end_lem c.args.n c.args.s.now c.args.at c.requires.0 c.loop-i.i last in
    let l = c.loop-i in
    let e : l.i ≡ c.args.n - 1 = omega arith in
    let f : c.args.n - 1 + 1 ≡ c.args.n = omega arith in
    let m = rw f at (mark_one _ _ _ _ _ _ (rw e at l.invariant.2) (omega (arith, c.requires.1)) (rw e at l.invariant.1)) in
    let z : c.line_after-next.result - 1 ≡ text_start c.args.at (first_record c.args.n c.args.s.now c.args.at) c.args.n =
    omega (arith, ended) in
    cuts c.args.n c.args.s.now c.args.at c.requires.0 _ _ (mark_one _ _ _ _ _ _ m c.requires.1 z) _ ended

pub overflow_add-start-in-loop-i : goal.overflow_add-start-in-loop-i
overflow_add-start-in-loop-i c =
    let next_start : c.text_end-start.result + 3 ≡ text_start c.args.at (first_record c.args.n c.args.s.now c.args.at) (c.loop-i.i + 1) =
    let l = c.loop-i in
    let t = text_at c.args.n c.args.s.now c.args.at c.requires.0 l.i (omega (arith, l.invariant.0)) in
    let g = rw l.invariant.1 at c.text_end-start.ensures.place in
    omega (arith, t.size, t.ends) in
    let next_near : c.text_end-start.result + 4 ≤ length c.args.s.now =
    omega (arith, next_start, near_at c.args.n c.args.s.now c.args.at c.requires.0 (c.loop-i.i + 1)) in
    omega (arith, next_near)

pub line_after-next-requires : goal.line_after-next-requires
line_after-next-requires c =
    let near : c.loop-i.start + 1 ≤ length c.args.s.now =
    omega (arith, near_at c.args.n c.args.s.now c.args.at c.requires.0 c.loop-i.i) in
    omega (arith, near)

pub overflow_sub-places : goal.overflow_sub-places
overflow_sub-places c =
    let last : c.loop-i.i + 1 ≡ c.args.n =
    omega (arith, c.loop-i.invariant.0) in
    let ended : c.line_after-next.result ≡ text_start c.args.at (first_record c.args.n c.args.s.now c.args.at) c.args.n + 1 =
    rw c.loop-i.invariant.1 at c.line_after-next.ensures
    ∙ line_end_lem c.args.n c.args.s.now c.args.at c.requires.0 c.loop-i.i last in
    omega (arith, ended)

pub bounds-places-n : goal.bounds-places-n
bounds-places-n c = simp length-set (omega (arith, c.loop-i.invariant.2.size))

pub shape_of-places : goal.shape_of-places
shape_of-places c = simp length-set c.loop-i.invariant.2.size
