-- `ascent::keyed` meets its contract: the fields of a key are numbers, read one after another.
use native.Mathlib.Omega.{arith}
use Rattle.keys.proofs.TableLaws.{keyed_two, keyed_nine, keyed_three}
use Rattle.amiss.proofs.RecordLaws.{first_number}
use Rattle.rules.specs.Texts.{texts}
use Rattle.file.specs.Format.{Fields}
use Rattle.ascent.proofs.KeyLaws.{second_number, third_number, key_one, key_two, key_three}
use Rattle.ascent.proofs.keyed.Goals as goal
use Rattle.ascent.proofs.keyed.Goals.{then-file-lt8-via-then-file-lt8, then-file-lt8-via-else-file-lt8+then-file-eq9}

pub number_of-a-requires : goal.number_of-a-requires
number_of-a-requires c =
    (c.requires.1, first_number c.args.file c.requires.0.0 (omega (arith, c.requires.0.1)))

pub returns-then-file-lt6 : goal.returns-then-file-lt6
returns-then-file-lt6 c =
    let record_of : Fields =
    texts c.args.file c.args.row.bytes.now c.args.row.places.now in
    key_one c.args.file record_of _ c.number_of-a.ensures.0 c.requires.0 c.if-file-lt6.true

pub number_of-b-requires : goal.number_of-b-requires
number_of-b-requires c =
    (c.requires.1, second_number c.args.file c.if-file-lt6.false c.requires.0.1)

pub returns-then-file-lt8 : goal.returns-then-file-lt8
returns-then-file-lt8 c =
    let record_of : Fields =
    texts c.args.file c.args.row.bytes.now c.args.row.places.now in
    let two = key_two c.args.file record_of _ c.number_of-a.ensures.0 _ c.number_of-b.ensures.0 in
    elim c.then-file-lt8.branch [
      | then-file-lt8-via-then-file-lt8 w ↦ two (keyed_two c.args.file c.if-file-lt6.false w.if-file-lt8.true)
      | then-file-lt8-via-else-file-lt8+then-file-eq9 w ↦ two (keyed_nine c.args.file w.if-file-eq9.true)
    ]

pub number_of-c-requires : goal.number_of-c-requires
number_of-c-requires c =
    (c.requires.1, third_number c.args.file (keyed_three c.args.file c.if-file-lt8.false c.requires.0.1 c.if-file-eq9.false))

pub returns : goal.returns
returns c =
    let record_of : Fields =
    texts c.args.file c.args.row.bytes.now c.args.row.places.now in
    key_three c.args.file record_of _ c.number_of-a.ensures.0 _ c.number_of-b.ensures.0
    (keyed_three c.args.file c.if-file-lt8.false c.requires.0.1 c.if-file-eq9.false) _ c.number_of-c.ensures.0 c.number_of-c.ensures.1
