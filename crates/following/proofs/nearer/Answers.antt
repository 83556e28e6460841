-- `following::nearer` meets its contract.
use native.Mathlib.Omega.{arith}
use borrow.Author.Tests.{eq-eqb, le-leb}
use Rattle.laws.specs.Tests.{tests}
use Rattle.find.proofs.TripLaws.{lesser_is}
use Rattle.following.proofs.nearer.Goals as goal
use Rattle.following.proofs.nearer.Goals.{else-k-hi-via-then-k-hi+else-k-x, else-k-hi-via-else-k-hi}

pub returns-then-k-x : goal.returns-then-k-x
returns-then-k-x c =
    let a = c.args in
    rw (eq-eqb _ _ c.if-k-hi.true, le-leb _ _ c.if-k-x.true) (omega (arith, c.min.ensures, lesser_is a.k.lo a.least))

pub returns : goal.returns
returns c = elim c.else-k-hi.branch [ else-k-hi-via-then-k-hi+else-k-x w ↦ search tests | else-k-hi-via-else-k-hi w ↦ search tests ]
