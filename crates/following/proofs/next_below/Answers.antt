-- `following::next_below` meets its contract: each way finds the same.
use mathlib.Core.Path.{◌∙◌}
use Rattle.file.specs.Files.{fields_of}
use Rattle.lines.proofs.OrderLaws.{from_place}
use Rattle.keys.specs.Ranks.{rank_of, rank_key}
use Rattle.find.proofs.TripLaws.{rising_leads, leads_next}
use Rattle.following.proofs.next_below.Goals as goal

pub if_of_trip-requires : goal.if_of_trip-requires
if_of_trip-requires c =
    let a = c.args in
    let q = c.requires.0 in
    let m = c.first_from-at in
    (q.serves.keyed, q.numbers, from_place (fields_of a.file) (rank_of a.file) a.s.now _ m.result q.serves.keyed.legal m.ensures, c.requires.1, c.requires.2)

pub returns-then-rises : goal.returns-then-rises
unfolding rank_key
returns-then-rises c =
    let a = c.args in
    let q = c.requires.0 in
    let f = q.serves.keyed in
    let m = c.first_from-at in
    let l = rising_leads a.file a.s.now _ m.result f (q.serves.up c.if-rises.true) m.ensures in
    c.if_of_trip.ensures ∙ leads_next a.file a.line a.trip a.x a.s.now m.result f q.numbers c.requires.1 c.requires.2 l

pub first_from-at-requires : goal.first_from-at-requires
first_from-at-requires c = let p = c.requires in let q = p.0.serves in (q.keyed, q.up c.if-rises.true, p.0.place, p.3)

pub next_by_index-requires : goal.next_by_index-requires
next_by_index-requires c = let p = c.requires in let q = p.0.serves in (q.keyed, p.0.numbers, q.index c.if-part-gt0.true, p.1, p.2, p.3)
