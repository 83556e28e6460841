-- `steps::first_step` meets its contract: by an index its first entry tells, else the walk begins by a search.
use mathlib.Core.Path.{◌≡◌, refl, sym, ◌∙◌}
use mathlib.Core.Bool.{true}
use native.Mathlib.Omega.{arith}
use lib.ListN.{length}
use borrow.Author.Tests.{eqb-false}
use Rattle.lookup.specs.Ways.{apart, how_of}
use Rattle.trail.proofs.WalkLaws.{way_asks}
use Rattle.steps.proofs.first_step.Goals as goal
use Rattle.steps.proofs.first_step.Goals.{then-up, else-up}

pub first_entry-requires : goal.first_entry-requires
first_entry-requires c =
    let a = c.args in
    let p = c.requires in
    let w = p.0 in
    let q = way_asks a.file a.s.now a.paths.order.now a.paths.ways.now a.last 3 w.way w.place w.three _ refl _ c.index_of-part.ensures in
    let e = c.if-paths-i-eq2.true in
    let u : apart (how_of a.paths.ways.now a.file) ≡ true = rw e in
    let some : length c.index_of-part.result.now ≡ 0 → ⊥ = eqb-false _ _ (sym c.if-not-is_empty.ensures) in
    (q.serves.keyed, w.three, q.serves.index (omega arith), w.way.once u, p.1, p.2)

pub returns : goal.returns
returns c =
    elim c.if-up.branch [
      | then-up w ↦ c.along.ensures ∙ rw (w.x-is, w.if-up.true)
      | else-up w ↦ c.along.ensures ∙ rw (w.x-is, w.if-up.false)
    ]
