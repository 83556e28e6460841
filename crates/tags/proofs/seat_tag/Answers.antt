-- `tags::seat_tag` meets its contract: trip 0 asks for nothing, and any other for the trip of that line.
use mathlib.Core.Path.{refl, sym, ap, ◌∙◌}
use Prim.Native.Nat.{ℕ, ◌<◌}
use Rattle.file.specs.Format.{Fields}
use Rattle.field.specs.Names.{field}
use Rattle.field.specs.Values.{value}
use Rattle.keys.specs.Keys.{none}
use Rattle.rules.specs.Texts.{texts}
use Rattle.tags.specs.Tags.{tag}
use Rattle.tags.proofs.TagLaws.{seat_tagged, no_seat_tagged}
use Rattle.tags.proofs.seat_tag.Goals as goal

pub returns-then-x-eq0 : goal.returns-then-x-eq0
returns-then-x-eq0 c =
    let cutTexts : Fields =
    let a = c.args in texts a.file a.row.bytes.now a.row.places.now in
    let a = c.args in
    no_seat_tagged a.file a.f cutTexts 0 (sym c.requires.5) (sym c.number_of-x.ensures.0 ∙ c.if-x-eq0.true) refl

pub returns : goal.returns
returns c =
    let cutTexts : Fields =
    let a = c.args in texts a.file a.row.bytes.now a.row.places.now in
    let a = c.args in
    let e = c.number_of-x.ensures.0 in
    let v : value (field a.f cutTexts) < none = rw (← e) c.number_of-x.ensures.1 in
    seat_tagged a.file a.f cutTexts _ v a.a c.requires.1 c.requires.0 (sym c.requires.5) c.requires.4 (λ z. c.if-x-eq0.false (e ∙ z))
    (c.tag_of.ensures ∙ ap (λ (x : ℕ). tag 6 a.a x) e)
