-- `roll::name_at` meets its contract: the record that is cut is the one at the place, and its first two fields are numbers.
use mathlib.Core.Path.{◌≡◌, sym, subst, ◌∙◌}
use native.Mathlib.Omega.{arith}
use Rattle.file.specs.Files.{fields_of, field_counts}
use Rattle.file.specs.Format.{Fields}
use Rattle.walk.proofs.WalkLaws.{cut_first}
use Rattle.coded.proofs.LeftLaws.{left_here, left_kinded}
use Rattle.tripfault.proofs.FaultLaws.{named_line, named_trip}
use Rattle.roll.specs.Roll.{Names}
use Rattle.roll.specs.declared.Name.{Name}
use Rattle.roll.proofs.name_at.Goals as goal

pub cut-requires : goal.cut-requires
unfolding fields_of field_counts
cut-requires c =
    let a = c.args in
    left_here 6 a.f6.now a.paths.order.now a.paths.ways.now c.requires.0 a.at c.requires.1 c.requires.2

-- of the record at a place, where another says what it is
name_of : (r q : Fields) (name : Name) → r ≡ q → Names q name → Names r name
name_of r q name e n = subst (λ (x : Fields). Names x name) (sym e) n

pub part-requires : goal.part-requires
part-requires c = c.cut.ensures.parted 0 (omega arith)

pub value_of-requires : goal.value_of-requires
unfolding fields_of field_counts
value_of-requires c =
    let a = c.args in
    let n = named_line _ _ (left_kinded 6 a.f6.now a.paths.order.now a.paths.ways.now c.requires.0 a.at c.requires.1 c.requires.2 c.cut.ensures) _ c.part.ensures in
    (n.digits, n.most)

pub part-requires-2 : goal.part-requires-2
part-requires-2 c = c.cut.ensures.parted 1 (omega arith)

pub value_of-requires-2 : goal.value_of-requires-2
unfolding fields_of field_counts
value_of-requires-2 c =
    let a = c.args in
    let n = named_trip _ _ (left_kinded 6 a.f6.now a.paths.order.now a.paths.ways.now c.requires.0 a.at c.requires.1 c.requires.2 c.cut.ensures) _ c.part-2.ensures in
    (n.digits, n.most)

pub returns : goal.returns
unfolding fields_of field_counts
returns c =
    let a = c.args in
    let k = left_kinded 6 a.f6.now a.paths.order.now a.paths.ways.now c.requires.0 a.at c.requires.1 c.requires.2 c.cut.ensures in
    let l = named_line _ _ k _ c.part.ensures in
    let t = named_trip _ _ k _ c.part-2.ensures in
    name_of _ _ _ (cut_first 12 a.f6.now a.at _ _ _ c.cut.ensures)
    (record {
      of_line = c.value_of.ensures ∙ l.worth;
      of_trip_lem = c.value_of-2.ensures ∙ t.worth;
      small_line = rw c.value_of.ensures l.small;
      small_trip = rw c.value_of-2.ensures t.small;
    })
