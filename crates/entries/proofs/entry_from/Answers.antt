-- `entries::entry_from` meets its contract: the first entry from the trip's x on is the next record, or there is none.
use Rattle.std.specs.Prelude.{ℕ, Option}
use mathlib.Core.Path.{ap, ◌∙◌}
use native.Mathlib.Omega.{arith}
use Rattle.seek.proofs.SeekLaws.{entry_place}
use Rattle.trail.specs.Trail.{place_of}
use Rattle.entries.proofs.StepLaws.{entry_next, entry_none}
use Rattle.entries.proofs.entry_from.Goals as goal

pub returns-then-i-part : goal.returns-then-i-part
unfolding place_of
returns-then-i-part c x l =
    let a = c.args in
    let p = c.requires in
    let s = a.s.now in
    ap (λ (f : Option ℕ). place_of s f) (entry_none a.file a.line a.trip s p.0 p.1 p.3 p.4 a.part.now p.2 x a.i l c.if-i-part.true)

pub if_of_trip-found-requires : goal.if_of_trip-found-requires
if_of_trip-found-requires c =
    let a = c.args in
    let p = c.requires in
    (p.0, p.1, (entry_place a.file a.s.now a.part.now p.2 a.i (omega (arith, c.if-i-part.false))).0, p.3, p.4)

pub returns : goal.returns
returns c x l =
    let a = c.args in
    let p = c.requires in
    let s = a.s.now in
    c.place_of.ensures
    ∙ ap (λ (f : Option ℕ). place_of s f)
    (c.if_of_trip-found.ensures
    ∙ entry_next a.file a.line a.trip s p.0 p.1 p.3 p.4 a.part.now p.2 x a.i l (omega (arith, c.if-i-part.false)))

pub overflow_cast-part : goal.overflow_cast-part
overflow_cast-part c = omega (arith, c.type_inv.part c.args.i)
