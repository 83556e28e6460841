-- `preceding::number_by_index` meets its contract: the entry before the first that isn't below the trip's x tells the number, or there is none.
use mathlib.Core.Path.{◌∙◌}
use Prim.Native.Nat.{◌+◌, ◌*◌, ◌-◌}
use native.Mathlib.Omega.{arith}
use lib.ListN.{get_or}
use Rattle.keys.specs.Keys.{none}
use Rattle.seek.specs.Seek.{Lower}
use Rattle.seek.proofs.SeekLaws.{entry_place}
use Rattle.previous.proofs.PreviousLaws.{index_trails, index_first, number_none, trails_number}
use Rattle.preceding.proofs.number_by_index.Goals as goal

pub returns-then-i-eq0 : goal.returns-then-i-eq0
returns-then-i-eq0 c =
    let m = c.lower-i in
    let k = c.key_of in
    let a = c.args in
    let s = a.s.now in
    let l : Lower a.file s a.order.now ((a.line * none + a.trip) * none + a.x) m.result = rw k.ensures.rank at m.ensures in
    number_none a.file a.line a.trip a.x s c.requires.0 c.requires.1
    (index_first a.file s a.order.now _ m.result c.requires.0 c.requires.2 l c.if-i-eq0.true)

pub number_if_of_trip-requires : goal.number_if_of_trip-requires
number_if_of_trip-requires c =
    let m = c.lower-i in
    let a = c.args in
    let ne = c.if-i-eq0.false in
    let w = entry_place a.file a.s.now a.order.now c.requires.2 (m.result - 1) (omega (arith, ne, m.ensures.near)) in
    (c.requires.0, c.requires.1, w.0, w.1, c.requires.3, c.requires.4)

pub returns : goal.returns
returns c =
    let m = c.lower-i in
    let k = c.key_of in
    let a = c.args in
    let s = a.s.now in
    let ne = c.if-i-eq0.false in
    let l : Lower a.file s a.order.now ((a.line * none + a.trip) * none + a.x) m.result = rw k.ensures.rank at m.ensures in
    let t = index_trails a.file s a.order.now _ m.result c.requires.0 c.requires.2 l (omega arith) in
    c.number_if_of_trip.ensures
    ∙ trails_number a.file a.line a.trip a.x s c.requires.0 c.requires.1 (get_or a.order.now (m.result - 1) 0) c.requires.4 c.requires.5 t

pub key_of-requires : goal.key_of-requires
key_of-requires c = let p = c.requires in (p.3, p.4, p.5)

pub lower-i-requires : goal.lower-i-requires
lower-i-requires c = let p = c.requires in (p.0, p.2, c.key_of.ensures.low)

pub bounds-order-i : goal.bounds-order-i
bounds-order-i c = let ne = c.if-i-eq0.false in omega (arith, ne, c.lower-i.ensures.near)

pub overflow_cast-order : goal.overflow_cast-order
overflow_cast-order c = omega (arith, c.type_inv.order (c.lower-i.result - 1))
