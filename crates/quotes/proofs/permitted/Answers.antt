-- `quotes::permitted` meets its contract: a permitted text is one that goes on to its end.
use mathlib.Core.Path.{◌≡◌, sym, ap, ◌∙◌}
use Prim.Native.Nat.{ℕ}
use native.Mathlib.Omega.{arith}
use lib.Dec.{eqb}
use lib.ListN.{length}
use Rattle.file.specs.Bytes.{goes}
use Rattle.file.proofs.TextLaws.{permitted_goes}
use Rattle.quotes.proofs.permitted.Goals as goal

pub returns : goal.returns
returns c =
    let t = c.args.t.now in
    let e : c.text_end.result ≡ goes t = omega (arith, c.text_end.ensures.place) in
    ap (λ (n : ℕ). eqb n (length t)) e ∙ sym (permitted_goes t)
