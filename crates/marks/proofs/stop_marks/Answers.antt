-- `marks::stop_marks` meets its contract: a stop with no code of its own has the line's stop's signs, and one with a code its own and a `$` of the line's stop.
use mathlib.Core.Path.{sym, ◌∙◌}
use mathlib.Core.List.{List}
use native.Mathlib.Omega.{arith}
use Rattle.file.specs.Files.{fields_of}
use Rattle.file.specs.Format.{Fields}
use Rattle.file.specs.Records.{records_in}
use Rattle.rules.specs.Texts.{texts}
use Rattle.marks.proofs.MarkLaws.{trip_stop_codes, bare, coded, marks_theirs, marks_own}
use Rattle.marks.proofs.stop_marks.Goals as goal

pub returns-then-is_bare : goal.returns-then-is_bare
returns-then-is_bare c =
    let codes : List Fields = records_in (fields_of 3) c.args.f3.now in
    let line_stops : List Fields = records_in (fields_of 7) c.args.f7.now in
    let cut : Fields = texts 8 c.args.row.bytes.now c.args.row.places.now in
    marks_theirs codes line_stops cut (bare cut (sym c.is_bare.ensures ∙ c.if-is_bare.true)) c.their_marks-theirs.ensures

pub code_marks-own-requires : goal.code_marks-own-requires
code_marks-own-requires c =
    let p = c.requires in
    (p.0, trip_stop_codes, omega arith, p.2)

pub returns : goal.returns
returns c =
    let codes : List Fields = records_in (fields_of 3) c.args.f3.now in
    let line_stops : List Fields = records_in (fields_of 7) c.args.f7.now in
    let cut : Fields = texts 8 c.args.row.bytes.now c.args.row.places.now in
    marks_own codes line_stops cut (coded cut (sym c.is_bare.ensures ∙ c.if-is_bare.false)) c.code_marks-own.ensures c.their_marks-theirs.ensures c.with_dollar.ensures
