-- `entries::entry_below` meets its contract: the entry before the first from the trip's x on is the last record below x, or there is none.
use Rattle.std.specs.Prelude.{Option}
use mathlib.Core.Path.{ap, ◌∙◌}
use Prim.Native.Nat.{ℕ, ◌-◌, ◌<◌}
use native.Mathlib.Omega.{arith}
use Rattle.seek.proofs.SeekLaws.{entry_place}
use Rattle.trail.specs.Trail.{place_of}
use Rattle.entries.proofs.StepLaws.{entry_first, entry_previous}
use Rattle.entries.proofs.entry_below.Goals as goal

pub returns-then-i-eq0 : goal.returns-then-i-eq0
unfolding place_of
returns-then-i-eq0 c x m l =
    let a = c.args in
    let p = c.requires in
    let s = a.s.now in
    ap (λ (f : Option ℕ). place_of s f) (entry_first a.file a.line a.trip s p.0 p.1 p.5 p.6 a.part.now p.2 x a.i l c.if-i-eq0.true)

pub if_of_trip-found-requires : goal.if_of_trip-found-requires
if_of_trip-found-requires c =
    let a = c.args in
    let p = c.requires in
    let ne = c.if-i-eq0.false in
    (p.0, p.1, (entry_place a.file a.s.now a.part.now p.2 (a.i - 1) (omega (arith, p.4, ne))).0, p.5, p.6)

pub returns : goal.returns
returns c x m l =
    let a = c.args in
    let p = c.requires in
    let s = a.s.now in
    let ne = c.if-i-eq0.false in
    let h : 0 < a.i = omega arith in
    c.place_of.ensures
    ∙ ap (λ (f : Option ℕ). place_of s f)
    (c.if_of_trip-found.ensures
    ∙ entry_previous a.file a.line a.trip s p.0 p.1 p.5 p.6 a.part.now p.2 p.3 x a.i m l h)

pub overflow_cast-part : goal.overflow_cast-part
overflow_cast-part c = omega (arith, c.type_inv.part (c.args.i - 1))
