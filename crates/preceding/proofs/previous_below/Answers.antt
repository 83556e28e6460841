-- `preceding::previous_below` meets its contract: each way finds the same.
use mathlib.Core.Path.{◌∙◌}
use native.Mathlib.Omega.{arith}
use Rattle.file.specs.Files.{fields_of}
use Rattle.file.specs.Records.{records_in}
use Rattle.previous.proofs.PreviousLaws.{previous_most, by_number}
use Rattle.preceding.proofs.previous_below.Goals as goal

pub with_number-requires : goal.with_number-requires
with_number-requires c =
    let a = c.args in
    let y = c.number_by_index-y in
    let m = previous_most a.file a.line a.trip a.x (records_in (fields_of a.file) a.s.now) in
    (c.requires.0, c.requires.1, c.requires.2, omega (arith, m, y.ensures, c.requires.3))

pub returns-then-part-gt0 : goal.returns-then-part-gt0
returns-then-part-gt0 c =
    let a = c.args in
    let y = c.number_by_index-y in
    c.with_number.ensures ∙ by_number a.file a.line a.trip a.x (records_in (fields_of a.file) a.s.now) y.result y.ensures

pub with_number-requires-2 : goal.with_number-requires-2
with_number-requires-2 c =
    let a = c.args in
    let y = c.number_by_search-y in
    let m = previous_most a.file a.line a.trip a.x (records_in (fields_of a.file) a.s.now) in
    (c.requires.0, c.requires.1, c.requires.2, omega (arith, m, y.ensures, c.requires.3))

pub returns : goal.returns
returns c =
    let a = c.args in
    let y = c.number_by_search-y in
    c.with_number-2.ensures ∙ by_number a.file a.line a.trip a.x (records_in (fields_of a.file) a.s.now) y.result y.ensures

pub among_rising-requires : goal.among_rising-requires
among_rising-requires c = let p = c.requires in let q = p.0.serves in (q.keyed, p.0.numbers, q.up c.if-rises.true, p.0.place, p.1, p.2, p.3)

pub number_by_index-y-requires : goal.number_by_index-y-requires
number_by_index-y-requires c = let p = c.requires in let q = p.0.serves in (q.keyed, p.0.numbers, q.index c.if-part-gt0.true, p.1, p.2, p.3)
