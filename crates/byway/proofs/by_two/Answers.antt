-- `byway::by_two` meets its contract: the search goes the way that was made out for its file.
use mathlib.Core.Path.{refl}
use Rattle.file.specs.Files.{fields_of}
use Rattle.lines.proofs.LineLaws.{place_start}
use Rattle.trail.proofs.WalkLaws.{way_asks}
use Rattle.byway.proofs.by_two.Goals as goal

pub with_two-hit-requires : goal.with_two-hit-requires
with_two-hit-requires c =
    let a = c.args in
    let p = c.requires in
    (way_asks a.file a.s.now a.paths.order.now a.paths.ways.now 0 2 p.1 (place_start (fields_of a.file) a.s.now p.1.serves.keyed.legal) p.2 _ refl _ c.index_of.ensures, p.3, p.4)
