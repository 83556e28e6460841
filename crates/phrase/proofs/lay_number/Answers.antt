-- `phrase::lay_number` meets its contract: the text and the digits stand side by side, so they are one lay.
use native.Mathlib.Omega.{arith}
use Rattle.decimal.specs.Digits.{digits_of}
use Rattle.decimal.proofs.DigitLaws.{digits_most}
use Rattle.phrase.proofs.LayLaws.{laid_then}
use Rattle.phrase.proofs.lay_number.Goals as goal

pub lay-next-requires : goal.lay-next-requires
lay-next-requires c = omega arith

pub number-requires : goal.number-requires
number-requires c = omega (arith, digits_most c.args.n (omega arith))

pub returns : goal.returns
returns c =
    let a = c.args in
    let p = c.lay-next in
    let q = c.number in
    let l = laid_then a.d.now _ _ a.at p.result q.result a.t.now (digits_of a.n) p.ensures q.ensures (omega arith) in
    (l.0, l.1, omega (arith, digits_most a.n (omega arith)))
