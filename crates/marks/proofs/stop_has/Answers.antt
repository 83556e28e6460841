-- `marks::stop_has` meets its contract: a stop with no code of its own has the line's stop's signs, and one with a code its own and a `$` of the line's stop.
use mathlib.Core.Path.{sym, ◌∙◌}
use mathlib.Core.List.{List}
use native.Mathlib.Omega.{arith}
use borrow.Author.Tests.{ne_eqb}
use Rattle.file.specs.Files.{fields_of}
use Rattle.file.specs.Format.{Fields}
use Rattle.file.specs.Records.{records_in}
use Rattle.rules.specs.Texts.{texts}
use Rattle.marks.proofs.MarkLaws.{trip_stop_codes, bare, coded, signs_theirs, signs_here, signs_other, signs_dollar}
use Rattle.marks.proofs.stop_has.Goals as goal

pub has_code-requires : goal.has_code-requires
has_code-requires c =
    let p = c.requires in
    (p.0, p.1, trip_stop_codes, omega arith, p.3)

pub returns-then-is_bare : goal.returns-then-is_bare
returns-then-is_bare c =
    let codes : List Fields = records_in (fields_of 3) c.args.f3.now in
    let line_stops : List Fields = records_in (fields_of 7) c.args.f7.now in
    let cut : Fields = texts 8 c.args.row.bytes.now c.args.row.places.now in
    signs_theirs codes line_stops cut c.args.x (bare cut (sym c.is_bare.ensures ∙ c.if-is_bare.true)) c.theirs_has.ensures

pub returns-then-has_code : goal.returns-then-has_code
returns-then-has_code c =
    let codes : List Fields = records_in (fields_of 3) c.args.f3.now in
    let line_stops : List Fields = records_in (fields_of 7) c.args.f7.now in
    let cut : Fields = texts 8 c.args.row.bytes.now c.args.row.places.now in
    c.if-has_code.true
    ∙ signs_here codes line_stops cut c.args.x (coded cut (sym c.is_bare.ensures ∙ c.if-is_bare.false)) c.has_code.ensures c.if-has_code.true

pub returns-then-x-eq36 : goal.returns-then-x-eq36
returns-then-x-eq36 c =
    let codes : List Fields = records_in (fields_of 3) c.args.f3.now in
    let line_stops : List Fields = records_in (fields_of 7) c.args.f7.now in
    let cut : Fields = texts 8 c.args.row.bytes.now c.args.row.places.now in
    signs_dollar codes line_stops cut c.args.x (coded cut (sym c.is_bare.ensures ∙ c.if-is_bare.false)) c.has_code.ensures c.if-has_code.false c.if-x-eq36.true c.theirs_has-then-x-eq36.ensures

pub returns-else-x-eq36 : goal.returns-else-x-eq36
returns-else-x-eq36 c =
    let codes : List Fields = records_in (fields_of 3) c.args.f3.now in
    let line_stops : List Fields = records_in (fields_of 7) c.args.f7.now in
    let cut : Fields = texts 8 c.args.row.bytes.now c.args.row.places.now in
    ne_eqb _ 36 c.if-x-eq36.false
    ∙ signs_other codes line_stops cut c.args.x (coded cut (sym c.is_bare.ensures ∙ c.if-is_bare.false)) c.has_code.ensures c.if-has_code.false c.if-x-eq36.false
