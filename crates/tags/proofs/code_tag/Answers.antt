-- `tags::code_tag` meets its contract: only Zasspoje's second code is compared with another.
use mathlib.Core.Path.{ap, ◌∙◌, sym}
use Prim.Native.Nat.{ℕ}
use native.Mathlib.Omega.{arith}
use borrow.Author.Tests.{ne_eqb}
use Rattle.file.specs.Format.{Fields}
use Rattle.rules.specs.Texts.{texts}
use Rattle.amiss.proofs.RecordLaws.{code_numeral, code_number, code_small}
use Rattle.amiss.proofs.AmissLaws.{is_other}
use Rattle.tags.specs.Tags.{tag}
use Rattle.tags.proofs.TagLaws.{code_tagged, alone_sign}
use Rattle.tags.proofs.code_tag.Goals as goal

pub part-requires : goal.part-requires
part-requires c = c.requires.1.parted _ (omega (arith, c.requires.2.1, c.requires.2.2))

pub value_of-x-requires : goal.value_of-x-requires
value_of-x-requires c =
    let n = code_numeral c.requires.1 c.args.f c.part.ensures c.requires.2 (ne_eqb _ 0 c.requires.4) in
    (n.digits, n.most)

pub tag_of-requires : goal.tag_of-requires
tag_of-requires c =
    let n = code_numeral c.requires.1 c.args.f c.part.ensures c.requires.2 (ne_eqb _ 0 c.requires.4) in
    (omega arith, omega (arith, c.requires.0), rw c.value_of-x.ensures n.small)

pub returns-then-file-ne8 : goal.returns-then-file-ne8
returns-then-file-ne8 c =
    let a = c.args in
    let r : Fields = texts a.file a.row.bytes.now a.row.places.now in
    let g = ne_eqb _ 0 c.requires.4 in
    let small = code_small c.requires.1 a.f c.part.ensures c.requires.2 g in
    let number = code_number c.requires.1 a.f c.part.ensures c.requires.2 c.value_of-x.ensures in
    code_tagged a.file a.f r _ (sym c.requires.3) c.requires.0 g small
    (λ b. alone_sign b a.file a.f r (is_other a.file a.f c.then-file-ne8.either))
    (c.tag_of.ensures ∙ ap (λ (x : ℕ). tag 3 a.file x) number)

pub second_tag-requires : goal.second_tag-requires
second_tag-requires c =
    let g = ne_eqb _ 0 c.requires.4 in
    let n = code_numeral c.requires.1 c.args.f c.part.ensures c.requires.2 g in
    let number = code_number c.requires.1 c.args.f c.part.ensures c.requires.2 c.value_of-x.ensures in
    let p = c.if-file-ne8.false in
    let q = c.if-f-ne7.false in
    (rw c.value_of-x.ensures n.small, rw (p, q) at number, rw (p, q) at c.requires.4, rw p at c.requires.1)

pub returns : goal.returns
returns c = rw (c.if-file-ne8.false, c.if-f-ne7.false) c.second_tag.ensures
