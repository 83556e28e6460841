-- `previous::nearer` meets its contract.
use Prim.Native.Nat.{◌+◌}
use native.Mathlib.Omega.{arith}
use borrow.Author.Tests.{eq-eqb, lt-ltb}
use Rattle.laws.specs.Tests.{tests}
use Rattle.previous.proofs.PreviousLaws.{greater_is}
use Rattle.previous.proofs.nearer.Goals as goal
use Rattle.previous.proofs.nearer.Goals.{else-k-hi-via-then-k-hi+else-k-x, else-k-hi-via-else-k-hi}

pub returns-then-k-x : goal.returns-then-k-x
returns-then-k-x c =
    let a = c.args in
    rw (eq-eqb _ _ c.if-k-hi.true, lt-ltb _ _ c.if-k-x.true) (omega (arith, c.max.ensures, greater_is (a.k.lo + 1) a.most))

pub returns : goal.returns
returns c = elim c.else-k-hi.branch [ else-k-hi-via-then-k-hi+else-k-x w ↦ search tests | else-k-hi-via-else-k-hi w ↦ search tests ]
