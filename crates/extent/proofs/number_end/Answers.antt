-- `extent::number_end` meets its contract: the digits end there, and are as many as may be.
use Rattle.extent.proofs.TextLaws.{number_to}
use Rattle.extent.proofs.number_end.Goals as goal

pub returns-then-size-b : goal.returns-then-size-b
returns-then-size-b c =
    let a = c.args in
    number_to a.s.now a.at c.digits_end-end.result c.digits_end-end.ensures a.a a.b c.if-a-size.true c.if-size-b.true
