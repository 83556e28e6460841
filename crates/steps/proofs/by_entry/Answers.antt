-- `steps::by_entry` meets its contract: from the entry that names the place to the neighbouring one, or else the walk goes on by a search.
use mathlib.Core.Path.{◌≡◌, refl, ◌∙◌}
use mathlib.Core.Bool.{true}
use native.Mathlib.Omega.{arith}
use lib.ListN.{get_or}
use Rattle.keys.specs.Keys.{of_trip}
use Rattle.keys.specs.Ranks.{record_at}
use Rattle.lookup.specs.Ways.{apart, how_of}
use Rattle.trail.proofs.WalkLaws.{way_asks}
use Rattle.steps.proofs.by_entry.Goals as goal

pub entry_of-i-requires : goal.entry_of-i-requires
entry_of-i-requires c =
    let a = c.args in
    let p = c.requires in
    let w = p.0 in
    let q = way_asks a.file a.row.bytes.now a.paths.order.now a.paths.ways.now a.at 3 w.way w.place w.three _ refl _ c.index_of-part.ensures in
    (q.serves.keyed, q.serves.index, w.place, p.2.1.within)

pub next_entry-requires : goal.next_entry-requires
next_entry-requires c =
    let a = c.args in
    let p = c.requires in
    let w = p.0 in
    let part = c.index_of-part.result in
    let i = c.entry_of-i.result in
    let q = way_asks a.file a.row.bytes.now a.paths.order.now a.paths.ways.now a.at 3 w.way w.place w.three _ refl _ c.index_of-part.ensures in
    let d = c.names.ensures c.if-names.true in
    let u : apart (how_of a.paths.ways.now a.file) ≡ true = rw p.3 in
    let m : of_trip a.file a.line a.trip (record_at a.file a.row.bytes.now (get_or part.now i 0)) ≡ true = rw d.1 p.2.1.mine in
    (q.serves.keyed, w.three, q.serves.index (omega (arith, d.0)), w.way.once u, d.0, m, p.4, p.5)

pub returns-then-names : goal.returns-then-names
returns-then-names c =
    let d = c.names.ensures c.if-names.true in
    c.next_entry.ensures ∙ rw (d.1, c.requires.2.1.here)
