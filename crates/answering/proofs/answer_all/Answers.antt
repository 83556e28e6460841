-- `answering::answer_all` meets its contract. The loop's invariant speaks of what is left: the answers that are left, laid over the list as it is,
-- give the list that is wanted.
use mathlib.Core.Path.{◌≡◌, refl, ◌∙◌}
use Prim.Native.Nat.{◌+◌, ◌*◌, ◌/◌, ◌≤◌}
use native.Mathlib.Omega.{arith}
use lib.ListN.{length, drop}
use Rattle.asking.specs.Rows.{Ask, questions}
use Rattle.asking.proofs.RowLaws.{questions_turn, laid_turn, laid_all}
use Rattle.answering.proofs.answer_all.Invariants.{asking}
use Rattle.answering.proofs.answer_all.Goals as goal

pub loop-k-init : goal.loop-k-init
loop-k-init c = let h = c.requires.0 in (omega (arith, h), refl, refl)

pub ask_at-row-requires : goal.ask_at-row-requires
ask_at-row-requires c =
    let p = c.requires in
    (omega arith, p.1, p.2, p.3, p.4, p.5, p.6, p.7)

pub put_row-at-requires : goal.put_row-at-requires
put_row-at-requires c =
    let one_more : 7 * c.loop-k.k + 7 ≤ length c.args.asked.now = omega arith in
    omega (arith, c.loop-k.invariant.0, questions_turn c.args.asked.now (7 * c.loop-k.k) one_more)

pub loop-k-preserved : goal.loop-k-preserved
loop-k-preserved c =
    let i = 7 * c.loop-k.k in
    let one_more : 7 * c.loop-k.k + 7 ≤ length c.args.asked.now = omega arith in
    let next : 7 * (c.loop-k.k + 1) ≡ 7 * c.loop-k.k + 7 = omega arith in
    let answers : Ask =
    let a = c.args in asking a.f3.now a.f5.now a.f6.now a.f7.now a.f8.now a.f10.now a.holidays.now in
    let e = c.put_row-at.ensures in
    rw (next, e.0) (
      omega (arith, c.loop-k.invariant.0, c.put_row-at.auto.list, questions_turn c.args.asked.now i one_more),
      c.put_row-at.auto.list ∙ c.loop-k.invariant.1,
      laid_turn answers c.args.asked.now c.loop-k.list i c.loop-k.at one_more c.loop-k.invariant.0 c.ask_at-row.ensures e.1 ∙ c.loop-k.invariant.2,
    )

pub returns : goal.returns
returns c =
    let answers : Ask =
    let a = c.args in asking a.f3.now a.f5.now a.f6.now a.f7.now a.f8.now a.f10.now a.holidays.now in
    let h : length c.args.asked.now ≤ 7 * c.loop-k.k + 6 = omega arith in
    laid_all answers c.args.asked.now c.loop-k.list (7 * c.loop-k.k) c.loop-k.at h c.loop-k.invariant.2
