-- `tags::second_tag` meets its contract: where the first code is empty the second stands alone, and else beside it.
use mathlib.Core.Path.{◌≡◌, refl, ap, ◌∙◌}
use mathlib.Core.Bool.{false}
use Prim.Native.Nat.{ℕ, ◌<◌}
use native.Mathlib.Omega.{arith}
use borrow.Author.Tests.{ne_eqb}
use Rattle.file.specs.Format.{Fields}
use Rattle.field.specs.Names.{field}
use Rattle.field.specs.Values.{is_empty, value}
use Rattle.keys.specs.Keys.{none}
use Rattle.rules.specs.Texts.{texts}
use Rattle.amiss.proofs.RecordLaws.{code_is_empty, code_number, code_numeral, code_small, first_code}
use Rattle.tags.specs.Tags.{tag}
use Rattle.tags.proofs.TagLaws.{second_tagged, pair_tagged}
use Rattle.tags.proofs.second_tag.Goals as goal

pub part-first-requires : goal.part-first-requires
part-first-requires c = c.requires.3.parted 5 (omega (arith, (first_code 8 refl).2))

pub returns-then-is_empty : goal.returns-then-is_empty
returns-then-is_empty c =
    let r : Fields = texts 8 c.args.row.bytes.now c.args.row.places.now in
    let given : is_empty (field 7 r) ≡ false = ne_eqb _ 0 c.requires.2 in
    let small : value (field 7 r) < none = rw (← c.requires.1) c.requires.0 in
    let z = code_is_empty c.requires.3 6 c.part-first.ensures (first_code 8 refl) c.if-is_empty.ensures in
    second_tagged r _ given small z (c.tag_of.ensures ∙ ap (λ (x : ℕ). tag 3 8 x) c.requires.1)

pub value_of-requires : goal.value_of-requires
value_of-requires c =
    let z = code_is_empty c.requires.3 6 c.part-first.ensures (first_code 8 refl) c.if-is_empty.ensures in
    let n = code_numeral c.requires.3 6 c.part-first.ensures (first_code 8 refl) z in
    (n.digits, n.most)

pub tag_of-requires-2 : goal.tag_of-requires-2
tag_of-requires-2 c =
    let z = code_is_empty c.requires.3 6 c.part-first.ensures (first_code 8 refl) c.if-is_empty.ensures in
    let n = code_numeral c.requires.3 6 c.part-first.ensures (first_code 8 refl) z in
    (omega arith, rw c.value_of.ensures n.small, c.requires.0)

pub returns : goal.returns
returns c =
    let r : Fields = texts 8 c.args.row.bytes.now c.args.row.places.now in
    let given : is_empty (field 7 r) ≡ false = ne_eqb _ 0 c.requires.2 in
    let small : value (field 7 r) < none = rw (← c.requires.1) c.requires.0 in
    let z = code_is_empty c.requires.3 6 c.part-first.ensures (first_code 8 refl) c.if-is_empty.ensures in
    let number = code_number c.requires.3 6 c.part-first.ensures (first_code 8 refl) c.value_of.ensures in
    pair_tagged r _ given small z (code_small c.requires.3 6 c.part-first.ensures (first_code 8 refl) z)
    (c.tag_of-2.ensures ∙ ap (λ (x : ℕ). tag 8 x c.args.x) number ∙ ap (λ (x : ℕ). tag 8 (value (field 6 r)) x) c.requires.1)
