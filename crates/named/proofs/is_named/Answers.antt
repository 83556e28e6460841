-- `named::is_named` meets its contract: the three texts of the record that was cut, compared one by one.
use mathlib.Core.Path.{sym, ◌∙◌}
use native.Mathlib.Omega.{arith}
use Rattle.laws.specs.Tests.{clash}
use Rattle.file.specs.Files.{fields_of, field_counts}
use Rattle.named.specs.Names.{is_named}
use Rattle.named.proofs.NameLaws.{part_same}
use Rattle.named.proofs.is_named.Goals as goal
use Rattle.named.proofs.is_named.Goals.{then-eq, else-eq}

pub part-requires : goal.part-requires
unfolding fields_of field_counts
part-requires c = c.requires.parted 1 (omega arith)

pub part-requires-then-eq : goal.part-requires-then-eq
unfolding fields_of field_counts
part-requires-then-eq c = c.requires.parted 2 (omega arith)

pub part-requires-then-eq-2 : goal.part-requires-then-eq-2
unfolding fields_of field_counts
part-requires-then-eq-2 c = c.requires.parted 3 (omega arith)

pub returns-then-eq-2 : goal.returns-then-eq-2
unfolding is_named
returns-then-eq-2 c =
    let a = c.args in
    let row = a.row in
    let town_is = part_same row.bytes.now row.places.now 1 (omega arith) c.part.ensures a.town.now c.eq.ensures in
    let place_is = part_same row.bytes.now row.places.now 3 (omega arith) c.part-then-eq-2.ensures a.place.now c.eq-then-eq-2.ensures in
    elim c.if-eq.branch [
      | then-eq w ↦
          let part_is = part_same row.bytes.now row.places.now 2 (omega arith) w.part-then-eq.ensures a.part.now w.eq-then-eq.ensures in
          rw (town_is ∙ w.if-eq.true, part_is ∙ sym w.value-is ∙ c.if-eq-2.true, place_is)
      | else-eq w ↦ clash c.if-eq-2.true (w.value-is ∙ w.if-eq.false)
    ]

pub returns-else-eq-2 : goal.returns-else-eq-2
unfolding is_named
returns-else-eq-2 c =
    let a = c.args in
    let row = a.row in
    let town_is = part_same row.bytes.now row.places.now 1 (omega arith) c.part.ensures a.town.now c.eq.ensures in
    elim c.if-eq.branch [
      | then-eq w ↦
          let part_is = part_same row.bytes.now row.places.now 2 (omega arith) w.part-then-eq.ensures a.part.now w.eq-then-eq.ensures in
          rw (town_is ∙ w.if-eq.true, part_is ∙ sym w.value-is ∙ c.if-eq-2.false) c.if-eq-2.false
      | else-eq w ↦ rw (town_is ∙ w.if-eq.false) c.if-eq-2.false
    ]
