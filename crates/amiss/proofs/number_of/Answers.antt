-- `amiss::number_of` meets its contract: the field is of a numeric kind, so its text is digits, few enough.
use mathlib.Core.Path.{sym, ap, ◌∙◌}
use native.Mathlib.Omega.{arith}
use Rattle.file.specs.Format.{Text}
use Rattle.field.specs.Values.{value}
use Rattle.amiss.proofs.RecordLaws.{number_text, number_part}
use Rattle.amiss.proofs.number_of.Goals as goal

pub value_of-requires : goal.value_of-requires
value_of-requires c =
    let n = number_part c.requires.0 c.args.f c.part.ensures c.requires.1 in
    (n.digits, n.most)

pub returns : goal.returns
returns c =
    let part = c.part in
    let n = number_part c.requires.0 c.args.f part.ensures c.requires.1 in
    let e = number_text c.requires.0 c.args.f part.ensures c.requires.1 in
    (c.value_of.ensures ∙ ap (λ (t : Text). value t) (sym e), rw c.value_of.ensures n.small)

pub part-requires : goal.part-requires
part-requires c = c.requires.0.parted _ (omega (arith, c.requires.1.1, c.requires.1.2))
