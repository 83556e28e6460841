-- `byway::onward` meets its contract: the walk goes on behind the third number of the record that was cut.
use mathlib.Core.Path.{◌∙◌}
use native.Mathlib.Omega.{arith}
use Rattle.trail.proofs.NumberLaws.{third_text, third_there}
use Rattle.byway.proofs.onward.Goals as goal
use Rattle.byway.proofs.onward.Goals.{then-up, else-up}

pub part-requires : goal.part-requires
part-requires c =
    let w = c.requires.0 in
    c.requires.1.parted 2 (omega (arith, third_there c.args.file w.way.serves.keyed.keyed w.three))

pub value_of-number-requires : goal.value_of-number-requires
value_of-number-requires c =
    let a = c.args in
    let w = c.requires.0 in
    let n = third_text a.file a.row.bytes.now a.row.places.now w.way.serves.keyed.keyed w.three c.requires.1 _ c.part.ensures in
    (n.digits, n.most)

pub overflow_add-x : goal.overflow_add-x
overflow_add-x c =
    let a = c.args in
    let w = c.requires.0 in
    let n = third_text a.file a.row.bytes.now a.row.places.now w.way.serves.keyed.keyed w.three c.requires.1 _ c.part.ensures in
    omega (arith, c.value_of-number.ensures, n.worth, n.small)

pub returns : goal.returns
returns c =
    let a = c.args in
    let w = c.requires.0 in
    let n = third_text a.file a.row.bytes.now a.row.places.now w.way.serves.keyed.keyed w.three c.requires.1 _ c.part.ensures in
    elim c.if-up.branch [
      | then-up u ↦ c.along.ensures ∙ rw (u.x-is, c.value_of-number.ensures, n.worth, u.if-up.true)
      | else-up u ↦ c.along.ensures ∙ rw (u.x-is, c.value_of-number.ensures, n.worth, u.if-up.false)
    ]
