-- `lines::plain_four` meets its contract: a sum of four of at most 1 is 4 only if each is 1.
use mathlib.Core.Path.{◌≡◌}
use Prim.Native.Nat.{◌+◌}
use native.Mathlib.Omega.{arith}
use Rattle.lines.proofs.LineLaws.{lead_four}
use Rattle.lines.proofs.plain_four.Goals as goal

pub returns : goal.returns
returns c =
    let g = c.args in
    let p = c.plain.ensures in
    let q = c.plain-2.ensures in
    let r = c.plain-3.ensures in
    let z = c.plain-4.ensures in (
      omega (arith, p.0, q.0, r.0, z.0),
      λ e.
          let sum : c.plain.result + c.plain-2.result + c.plain-3.result + c.plain-4.result ≡ 4 = e in
          lead_four g.s.now g.i (omega arith)
          (p.1 (omega (arith, p.0, q.0, r.0, z.0)))
          (q.1 (omega (arith, p.0, q.0, r.0, z.0)))
          (r.1 (omega (arith, p.0, q.0, r.0, z.0)))
          (z.1 (omega (arith, p.0, q.0, r.0, z.0))),
    )
