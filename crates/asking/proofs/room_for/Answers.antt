-- `asking::room_for` meets its contract: a question is seven numbers, an answer three.
use native.Mathlib.Omega.{arith}
use Prim.Native.Nat.{◌*◌}
use lib.ListN.{length}
use borrow.Author.Tests.{le-leb, lt-leb}
use Rattle.file.specs.Answers.{numbered}
use Rattle.fault.specs.Answers.{numbered_fault}
use Rattle.asking.specs.Rows.{questions}
use Rattle.asking.specs.Answers.{numbered_sales}
use Rattle.asking.proofs.RowLaws.{count_is, fits, fits_not}
use Rattle.asking.proofs.room_for.Goals as goal

pub returns-then-list-n : goal.returns-then-list-n
unfolding numbered_sales numbered_fault numbered
returns-then-list-n c =
    let a = c.args in
    rw (lt-leb (3 * questions a.asked.now) (length a.list.now) (fits_not a.asked.now a.list.now (omega (arith, c.if-list-n))))

pub returns : goal.returns
unfolding numbered_sales
returns c =
    let a = c.args in
    rw (le-leb (3 * questions a.asked.now) (length a.list.now) (fits a.asked.now a.list.now (omega (arith, c.if-list-n))), count_is a.asked.now)
