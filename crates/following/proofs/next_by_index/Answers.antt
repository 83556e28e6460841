-- `following::next_by_index` meets its contract: the first entry from the trip's x on is the next record, or there is none.
use mathlib.Core.Path.{sym, ◌∙◌}
use native.Mathlib.Omega.{arith}
use lib.ListN.{length, get_or}
use Rattle.keys.specs.Ranks.{rank_key}
use Rattle.seek.proofs.SeekLaws.{entry_place}
use Rattle.find.proofs.TripLaws.{trip_end, index_leads, index_leads_none, leads_next}
use Rattle.following.proofs.next_by_index.Goals as goal

pub returns-then-i-order : goal.returns-then-i-order
unfolding rank_key
returns-then-i-order c =
    let a = c.args in
    let m = c.lower-i in
    let s = a.s.now in
    let l = index_leads_none a.file s a.order.now _ m.result c.requires.0 c.requires.2 m.ensures (omega arith) in
    sym (trip_end a.file a.line a.trip s (length s) (omega arith))
    ∙ leads_next a.file a.line a.trip a.x s (length s) c.requires.0 c.requires.1 c.requires.3 c.requires.4 l

pub if_of_trip-requires : goal.if_of_trip-requires
if_of_trip-requires c =
    let a = c.args in
    let w = entry_place a.file a.s.now a.order.now c.requires.2 c.lower-i.result (omega arith) in
    (c.requires.0, c.requires.1, w.0, c.requires.3, c.requires.4)

pub returns : goal.returns
unfolding rank_key
returns c =
    let a = c.args in
    let m = c.lower-i in
    let s = a.s.now in
    let l = index_leads a.file s a.order.now _ m.result c.requires.0 c.requires.2 m.ensures (omega arith) in
    c.if_of_trip.ensures ∙ leads_next a.file a.line a.trip a.x s (get_or a.order.now m.result 0) c.requires.0 c.requires.1 c.requires.3 c.requires.4 l

pub overflow_cast-order : goal.overflow_cast-order
overflow_cast-order c = omega (arith, c.type_inv.order c.lower-i.result)
