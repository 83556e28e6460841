-- `byway::along` meets its contract: upward the next record, downward the previous one, each by the way that was made out for its file.
use Rattle.std.specs.Prelude.{ℕ, Option}
use mathlib.Core.Path.{refl, ap, ◌∙◌}
use Rattle.trail.specs.Trail.{step_of, place_of}
use Rattle.trail.proofs.WalkLaws.{way_asks}
use Rattle.byway.proofs.along.Goals as goal

pub next_of_trip-requires : goal.next_of_trip-requires
next_of_trip-requires c =
    let a = c.args in
    let w = c.requires.0 in
    (way_asks a.file a.s.now a.paths.order.now a.paths.ways.now a.last 3 w.way w.place w.three _ refl _ c.index_of-part.ensures, c.requires.1, c.requires.2)

pub returns-then-up : goal.returns-then-up
unfolding step_of
returns-then-up c =
    let s = c.args.s.now in
    c.place_of.ensures ∙ ap (λ (f : Option ℕ). place_of s f) (c.next_of_trip.ensures ∙ rw c.if-up.true)

pub previous_of_trip-requires : goal.previous_of_trip-requires
previous_of_trip-requires c =
    let a = c.args in
    let w = c.requires.0 in
    (way_asks a.file a.s.now a.paths.order.now a.paths.ways.now a.last 3 w.way w.place w.three _ refl _ c.index_of-part.ensures, c.requires.1, c.requires.2)

pub returns-else-up : goal.returns-else-up
unfolding step_of
returns-else-up c =
    let s = c.args.s.now in
    c.place_of-else-up.ensures ∙ ap (λ (f : Option ℕ). place_of s f) (c.previous_of_trip.ensures ∙ rw c.if-up.false)
