-- `marks::line_stop_of` meets its contract: it goes by the first and the third number of the record that was cut.
use mathlib.Core.Path.{◌≡◌, sym, ap, ◌∙◌}
use Prim.Native.Nat.{ℕ, ◌<◌}
use native.Mathlib.Omega.{arith}
use Rattle.file.specs.Files.{fields_of, field_counts}
use Rattle.file.specs.Format.{Text, Fields}
use Rattle.field.specs.Values.{value}
use Rattle.keys.specs.Keys.{third, none}
use Rattle.link.specs.Met.{number}
use Rattle.rules.specs.Texts.{texts}
use Rattle.amiss.proofs.RecordLaws.{number_part, number_text}
use Rattle.trail.proofs.NumberLaws.{Third, third_text}
use Rattle.calling.proofs.CallingLaws.{three_numbers}
use Rattle.marks.proofs.MarkLaws.{line_number, two_numbers, sought_is}
use Rattle.marks.proofs.line_stop_of.Goals as goal

pub part-requires : goal.part-requires
unfolding fields_of field_counts
part-requires c = c.requires.0.parted 0 (omega arith)

pub value_of-line-requires : goal.value_of-line-requires
value_of-line-requires c =
    let n = number_part c.requires.0 1 c.part.ensures line_number in
    (n.digits, n.most)

pub part-requires-2 : goal.part-requires-2
unfolding fields_of field_counts
part-requires-2 c = c.requires.0.parted 2 (omega arith)

pub value_of-tariff-requires : goal.value_of-tariff-requires
value_of-tariff-requires c =
    let a = c.args in
    let n = third_text 8 a.row.bytes.now a.row.places.now (omega arith, omega arith) three_numbers c.requires.0 _ c.part-2.ensures in
    (n.digits, n.most)

pub by_two-requires : goal.by_two-requires
by_two-requires c =
    let line : ℕ =
    c.value_of-line.result in
    let line_small : line < none =
    omega (arith, c.value_of-line.ensures, (number_part c.requires.0 1 c.part.ensures line_number).small) in
    let tariff : ℕ =
    c.value_of-tariff.result in
    let cut : Fields =
    texts 8 c.args.row.bytes.now c.args.row.places.now in
    let tariff_text : Third 8 cut c.part-2.result.now =
    third_text 8 c.args.row.bytes.now c.args.row.places.now (omega arith, omega arith) three_numbers c.requires.0 _ c.part-2.ensures in
    let tariff_is : tariff ≡ third 8 cut =
    c.value_of-tariff.ensures ∙ tariff_text.worth in
    let tariff_small : tariff < none =
    omega (arith, tariff_is, tariff_text.small) in
    let k = c.requires.1 in
    (k.size, k.way, two_numbers, line_small, tariff_small)

pub returns : goal.returns
returns c =
    let cut : Fields =
    texts 8 c.args.row.bytes.now c.args.row.places.now in
    let line : ℕ =
    c.value_of-line.result in
    let tariff : ℕ =
    c.value_of-tariff.result in
    let line_is : line ≡ number 1 cut =
    c.value_of-line.ensures
    ∙ ap (λ (t : Text). value t) (sym (number_text c.requires.0 1 c.part.ensures line_number)) in
    let tariff_text : Third 8 cut c.part-2.result.now =
    third_text 8 c.args.row.bytes.now c.args.row.places.now (omega arith, omega arith) three_numbers c.requires.0 _ c.part-2.ensures in
    let tariff_is : tariff ≡ third 8 cut =
    c.value_of-tariff.ensures ∙ tariff_text.worth in
    let line_small : line < none =
    omega (arith, c.value_of-line.ensures, (number_part c.requires.0 1 c.part.ensures line_number).small) in
    let tariff_small : tariff < none =
    omega (arith, tariff_is, tariff_text.small) in
    sought_is c.args.f7.now cut line tariff line_is tariff_is line_small tariff_small c.by_two.ensures
