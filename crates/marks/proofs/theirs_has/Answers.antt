-- `marks::theirs_has` meets its contract: what the line's stop that is found says, or nothing.
use Rattle.file.specs.Files.{fields_of}
use Rattle.file.specs.Format.{Fields}
use Rattle.file.specs.Records.{records_in}
use Rattle.rules.specs.Texts.{texts}
use Rattle.marks.proofs.MarkLaws.{stop_found, stop_there, stop_none}
use Rattle.marks.proofs.theirs_has.Goals as goal

pub line_stop_has-requires : goal.line_stop_has-requires
line_stop_has-requires c =
    let cut : Fields =
    texts 8 c.args.row.bytes.now c.args.row.places.now in
    let a = c.args in
    let p = c.requires in
    let w = stop_found (records_in (fields_of 3) a.f3.now) a.f7.now cut c.line_stop_of.ensures p.2.key _ c.in-Some.is in
    (p.0, w.0, w.1, p.2, p.3)

pub returns-in-Some : goal.returns-in-Some
returns-in-Some c =
    let cut : Fields =
    texts 8 c.args.row.bytes.now c.args.row.places.now in
    let a = c.args in
    stop_there (records_in (fields_of 3) a.f3.now) a.f7.now cut c.line_stop_of.ensures c.requires.2.key _ c.in-Some.is a.x c.line_stop_has.ensures

pub returns-in-None : goal.returns-in-None
returns-in-None c =
    let cut : Fields =
    texts 8 c.args.row.bytes.now c.args.row.places.now in
    let a = c.args in
    stop_none (records_in (fields_of 3) a.f3.now) a.f7.now cut c.line_stop_of.ensures c.in-None.is a.x
