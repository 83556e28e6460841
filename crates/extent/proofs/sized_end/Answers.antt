-- `extent::sized_end` meets its contract: a text goes on as far as its bytes are permitted, and they are as many as may be.
use Rattle.extent.proofs.TextLaws.{sized_to}
use Rattle.extent.proofs.sized_end.Goals as goal

pub returns-then-size-b : goal.returns-then-size-b
returns-then-size-b c =
    let a = c.args in
    sized_to a.a a.b a.s.now a.at c.text_end-end.result c.text_end-end.ensures c.if-a-size.true c.if-size-b.true
