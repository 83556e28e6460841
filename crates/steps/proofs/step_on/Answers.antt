-- `steps::step_on` meets its contract: each way goes on to the same place.
use Rattle.std.specs.Prelude.{ℕ, Option}
use mathlib.Core.Path.{ap, ◌∙◌}
use borrow.Author.Tests.{eq-eqb}
use Rattle.trail.specs.Trail.{place_of}
use Rattle.steps.proofs.step_on.Goals as goal

pub beside-found-requires : goal.beside-found-requires
beside-found-requires c =
    let p = c.requires in
    let w = p.0 in
    let t = p.2 in
    let q = w.way.serves in
    (q.keyed, w.three, q.up (eq-eqb _ 1 c.if-paths-i-eq1.true), w.place, t.within, t.past, t.mine, p.3, p.4)

pub returns-then-paths-i-eq1 : goal.returns-then-paths-i-eq1
returns-then-paths-i-eq1 c =
    let s = c.args.row.bytes.now in
    c.place_of.ensures ∙ ap (λ (f : Option ℕ). place_of s f) c.beside-found.ensures ∙ rw c.requires.2.here
