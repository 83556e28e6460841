-- `preceding::previous_of_trip` meets its contract: every number is below one of ten digits.
use mathlib.Core.Path.{◌∙◌}
use Rattle.file.specs.Files.{fields_of}
use Rattle.file.specs.Records.{records_in}
use Rattle.previous.proofs.PreviousLaws.{previous_capped}
use Rattle.preceding.proofs.previous_of_trip.Goals as goal

pub returns : goal.returns
returns c =
    let a = c.args in
    let rs = records_in (fields_of a.file) a.s.now in
    c.previous_below.ensures ∙ previous_capped a.file a.line a.trip a.x rs c.requires.0.serves.keyed.keys c.min.result c.min.ensures
