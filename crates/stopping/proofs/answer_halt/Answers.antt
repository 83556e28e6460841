-- `stopping::answer_halt` meets its contract: the walk comes to the nth stop's record, or to the end of the file.
use Rattle.file.specs.Answers.{numbered}
use Rattle.file.specs.Files.{fields_of}
use Rattle.file.specs.Records.{records_in}
use Rattle.fault.specs.Answers.{numbered_fault}
use Rattle.outcome.specs.Answers.{numbered_stop}
use Rattle.stopping.proofs.StoppingLaws.{nth_zero, nth_none, nth_there}
use Rattle.stopping.proofs.answer_halt.Goals as goal

pub returns-then-n-eq0 : goal.returns-then-n-eq0
unfolding numbered_stop numbered_fault numbered
returns-then-n-eq0 c =
    let a = c.args in
    nth_zero (records_in (fields_of 3) a.f3.now) (records_in (fields_of 7) a.f7.now) (records_in (fields_of 8) a.f8.now) a.line a.trip a.n c.if-n-eq0.true

pub returns-then-at-f8 : goal.returns-then-at-f8
unfolding numbered_stop numbered_fault numbered
returns-then-at-f8 c =
    let a = c.args in
    let p = c.requires in
    nth_none (records_in (fields_of 3) a.f3.now) (records_in (fields_of 7) a.f7.now) a.f8.now a.paths.order.now a.paths.ways.now p.4 a.line a.trip p.0 p.1 a.n c.nth_stop-at.result c.if-n-eq0.false c.nth_stop-at.ensures c.if-at-f8.true

pub returns : goal.returns
unfolding numbered_stop
returns c =
    let a = c.args in
    let p = c.requires in
    nth_there (records_in (fields_of 3) a.f3.now) (records_in (fields_of 7) a.f7.now) a.f8.now a.paths.order.now a.paths.ways.now p.4 a.line a.trip p.0 p.1 a.n c.nth_stop-at.result c.if-n-eq0.false c.nth_stop-at.ensures c.if-at-f8.false c.halt_at.ensures
