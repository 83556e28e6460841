-- `hinted::is_start` meets its contract: a record starts at 0, and behind an LF.
use native.Mathlib.Omega.{arith}
use borrow.Author.Tests.{eqb-true, ltb-true}
use Rattle.file.specs.Files.{fields_of}
use Rattle.keys.specs.Ranks.{rank_of}
use Rattle.lines.proofs.IndexLaws.{start_first, start_after}
use Rattle.hinted.proofs.is_start.Goals as goal

pub returns-then-x-eq0 : goal.returns-then-x-eq0
returns-then-x-eq0 c =
    λ e.
    let a = c.args in
    rw c.if-x-eq0.true (start_first (fields_of a.file) (rank_of a.file) a.s.now c.requires.0.legal (omega arith))

pub returns-else-x-eq0 : goal.returns-else-x-eq0
returns-else-x-eq0 c =
    λ e.
    let a = c.args in
    start_after (fields_of a.file) (rank_of a.file) a.s.now a.x c.requires.0.legal
    (omega arith) (omega arith) c.requires.1 (eqb-true _ _ e)

pub returns-else-x-s : goal.returns-else-x-s
returns-else-x-s c = λ e. let h = ltb-true _ _ e in absurd (omega arith)
