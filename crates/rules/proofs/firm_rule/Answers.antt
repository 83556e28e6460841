-- `rules::firm_rule` meets its contract: the texts that are asked are the record's kind and person's name.
use native.Mathlib.Omega.{arith}
use Rattle.file.specs.Files.{fields_of, field_counts}
use Rattle.rules.proofs.KindLaws.{text_at}
use Rattle.field.specs.Rules.{firm_rule}
use Rattle.rules.proofs.firm_rule.Goals as goal

pub returns : goal.returns
unfolding firm_rule fields_of field_counts
returns c =
    let k = c.requires in
    rw (text_at k 3 (omega arith) c.part.ensures, text_at k 4 (omega arith) c.part-2.ensures) c.name_given.ensures
