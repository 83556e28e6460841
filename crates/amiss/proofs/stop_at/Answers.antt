-- `amiss::stop_at` meets its contract: the record that is cut is the one at the place, and its fourth field is a number.
use mathlib.Core.Path.{sym, ap, ◌∙◌}
use native.Mathlib.Omega.{arith}
use Rattle.file.specs.Files.{fields_of, field_counts}
use Rattle.file.specs.Format.{Text, Fields}
use Rattle.field.specs.Names.{field}
use Rattle.field.specs.Values.{value}
use Rattle.walk.proofs.WalkLaws.{cut_first}
use Rattle.keys.proofs.KeyFileLaws.{key_here}
use Rattle.amiss.proofs.RecordLaws.{number_text, number_part, cut_kinded, stop_number}
use Rattle.amiss.proofs.stop_at.Goals as goal

pub cut-requires : goal.cut-requires
unfolding fields_of field_counts
cut-requires c =
    (key_here 7 _ _ c.requires.0 c.requires.2 c.requires.3).here

pub part-requires : goal.part-requires
part-requires c = c.cut.ensures.parted 3 (omega arith)

pub value_of-requires : goal.value_of-requires
unfolding fields_of field_counts
value_of-requires c =
    let k = cut_kinded 7 c.args.s.now c.args.at c.requires.1 c.requires.2 c.requires.3 c.cut.ensures in
    let n = number_part k 4 c.part.ensures stop_number in
    (n.digits, n.most)

pub returns : goal.returns
unfolding fields_of field_counts
returns c =
    let s = c.args.s.now in
    let cut = c.cut.ensures in
    let k = cut_kinded 7 s c.args.at c.requires.1 c.requires.2 c.requires.3 cut in
    let e = number_text k 4 c.part.ensures stop_number in
    c.value_of.ensures ∙ ap (λ (t : Text). value t) (sym e) ∙ ap (λ (r : Fields). value (field 4 r)) (sym (cut_first 7 s c.args.at _ _ _ cut))
