-- `roll::stop_of` meets its contract: the search goes the way that was made out for Zasspoje.
use mathlib.Core.Path.{refl}
use Rattle.keys.specs.Keys.{key_fields, key_table}
use Rattle.trail.proofs.WalkLaws.{way_asks}
use Rattle.roll.proofs.stop_of.Goals as goal

pub with_three-requires : goal.with_three-requires
unfolding key_fields key_table
with_three-requires c =
    let a = c.args in
    let p = c.requires in
    (way_asks 8 a.f8.now a.paths.order.now a.paths.ways.now a.last 3 p.1.way p.2 refl _ refl _ c.index_of.ensures, p.3, p.4, p.0)
