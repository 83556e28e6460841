-- `bisection::look` meets its contract: a record with a lesser key is come to at once, and any other ends the looks behind it.
use mathlib.Core.Path.{sym, ◌∙◌}
use native.Mathlib.Omega.{arith}
use borrow.Author.Tests.{ltb-true}
use Rattle.keys.specs.Ranks.{rank_key}
use Rattle.keys.proofs.KeyFileLaws.{key_here}
use Rattle.bisection.proofs.SoughtLaws.{line_start, sought_far}
use Rattle.bisection.proofs.look.Goals as goal

pub key_at-k-requires : goal.key_at-k-requires
key_at-k-requires c =
    let n = c.line_after-to in
    let a = c.args in
    let q = c.requires.0 in
    let w = line_start a.file a.s.now a.left.lo a.mid n.result q.going.place n.ensures q.low (omega (arith, q.high, q.near)) in
    key_here a.file a.s.now n.result q.keyed w (omega (arith, q.near))

pub returns-then-less : goal.returns-then-less
returns-then-less c =
    let k = c.key_at-k in
    let n = c.line_after-to in
    let a = c.args in
    let q = c.requires.0 in
    let h = ltb-true (rank_key k.result) (rank_key a.x) (sym c.less.ensures ∙ c.if-less.true) in
    record {
      going = sought_far a.file a.s.now (rank_key a.x) 0 a.left.lo q.going q.rises k.result a.mid n.result n.ensures k.ensures h q.low
          (omega (arith, q.near));
      near = q.near;
      less = omega (arith, n.ensures, q.low, q.high);
    }
