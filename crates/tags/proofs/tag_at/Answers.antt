-- `tags::tag_at` meets its contract: a field that is empty asks for nothing.
use mathlib.Core.Path.{◌≡◌, sym, ap, ◌∙◌}
use mathlib.Core.Bool.{true}
use native.Mathlib.Omega.{arith}
use borrow.Author.Tests.{eqb-false}
use lib.ListN.{length}
use Rattle.file.specs.Files.{fields_of}
use Rattle.file.specs.Format.{Fields}
use Rattle.field.specs.Names.{field}
use Rattle.field.specs.Values.{is_empty}
use Rattle.walk.proofs.WalkLaws.{cut_size}
use Rattle.rules.specs.Texts.{texts}
use Rattle.rules.proofs.KindLaws.{text_at}
use Rattle.tags.proofs.TagLaws.{none_tagged}
use Rattle.tags.proofs.tag_at.Goals as goal

pub part-text-requires : goal.part-text-requires
part-text-requires c = c.requires.1.parted _ (omega (arith, c.requires.4, c.requires.5))

pub returns-then-is_empty : goal.returns-then-is_empty
returns-then-is_empty c =
    let a = c.args in
    let r : Fields = texts a.file a.row.bytes.now a.row.places.now in
    let e : field a.f r ≡ c.part-text.result.now = text_at c.requires.1 _ (omega (arith, c.requires.4, c.requires.5)) c.part-text.ensures in
    let z : is_empty (field a.f r) ≡ true = rw e (sym c.if-is_empty.ensures) in
    none_tagged a.file a.f r c.requires.1.kinds (cut_size (fields_of a.file) _ _) z

pub link_tag-requires : goal.link_tag-requires
link_tag-requires c =
    let a = c.args in
    let r : Fields = texts a.file a.row.bytes.now a.row.places.now in
    let e : field a.f r ≡ c.part-text.result.now = text_at c.requires.1 _ (omega (arith, c.requires.4, c.requires.5)) c.part-text.ensures in
    let p = c.requires in
    (p.0, p.1, p.2, p.3, λ z. eqb-false _ _ (sym c.if-is_empty.ensures) (ap length (sym e) ∙ z))
