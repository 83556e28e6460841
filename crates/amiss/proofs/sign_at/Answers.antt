-- `amiss::sign_at` meets its contract: the record that is cut is the one at the place, and its second field is a sign, a single byte.
use mathlib.Core.Path.{sym, ap, ◌∙◌}
use native.Mathlib.Omega.{arith}
use Rattle.file.specs.Files.{fields_of, field_counts}
use Rattle.file.specs.Format.{Text, Fields}
use Rattle.field.specs.Names.{field}
use Rattle.walk.proofs.WalkLaws.{cut_first}
use Rattle.keys.proofs.KeyFileLaws.{key_here}
use Rattle.link.specs.Signs.{first_byte}
use Rattle.rules.proofs.KindLaws.{text_at, text_kind}
use Rattle.amiss.proofs.RecordLaws.{cut_kinded, sign_given, first_byte_lem}
use Rattle.amiss.proofs.sign_at.Goals as goal

pub cut-requires : goal.cut-requires
unfolding fields_of field_counts
cut-requires c =
    (key_here 3 _ _ c.requires.0 c.requires.2 c.requires.3).here

pub part-sign-requires : goal.part-sign-requires
part-sign-requires c = c.cut.ensures.parted 1 (omega arith)

pub bounds-sign-0 : goal.bounds-sign-0
unfolding fields_of field_counts
bounds-sign-0 c =
    let k = cut_kinded 3 c.args.s.now c.args.at c.requires.1 c.requires.2 c.requires.3 c.cut.ensures in
    sign_given _ (text_kind k 1 (omega arith) c.part-sign.ensures)

pub returns : goal.returns
unfolding fields_of field_counts
returns c =
    let s = c.args.s.now in
    let cut = c.cut.ensures in
    let k = cut_kinded 3 s c.args.at c.requires.1 c.requires.2 c.requires.3 cut in
    let e = text_at k 1 (omega arith) c.part-sign.ensures in
    first_byte_lem _ ∙ ap (λ (t : Text). first_byte t) (sym e) ∙ ap (λ (r : Fields). first_byte (field 2 r)) (sym (cut_first 3 s c.args.at _ _ _ cut))
