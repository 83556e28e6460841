-- `rules::stop_rule` meets its contract: the texts that are asked are the record's district and state.
use native.Mathlib.Omega.{arith}
use Rattle.file.specs.Files.{fields_of, field_counts}
use Rattle.rules.proofs.KindLaws.{text_at}
use Rattle.field.specs.Rules.{stop_rule}
use Rattle.rules.proofs.stop_rule.Goals as goal

pub returns : goal.returns
unfolding stop_rule fields_of field_counts
returns c =
    let k = c.requires in
    rw (text_at k 4 (omega arith) c.part.ensures, text_at k 5 (omega arith) c.part-2.ensures) c.district_given.ensures
