-- `search::among_rising` meets its contract: the first record whose key isn't below k has it, or none does.
use mathlib.Core.Path.{sym, ◌∙◌}
use native.Mathlib.Omega.{arith}
use borrow.Author.Tests.{eqb-true, eqb-false}
use Rattle.file.specs.Files.{fields_of}
use Rattle.lines.proofs.OrderLaws.{from_place, from_rank, from_first, from_miss}
use Rattle.keys.specs.Ranks.{rank_of, rank_key}
use Rattle.keys.proofs.KeyFileLaws.{key_here}
use Rattle.search.proofs.among_rising.Goals as goal
use Rattle.search.proofs.among_rising.Goals.{else-first-s-via-then-first-s+else-equal, else-first-s-via-else-first-s}

pub key_at-requires : goal.key_at-requires
key_at-requires c =
    let a = c.args in
    let m = c.first_from-first in
    let q = from_place (fields_of a.file) (rank_of a.file) a.s.now (rank_key a.k) m.result c.requires.0.legal m.ensures in
    key_here a.file a.s.now m.result c.requires.0 q c.if-first-s.true

pub returns-then-equal : goal.returns-then-equal
returns-then-equal c =
    let k = c.key_at in
    let m = c.first_from-first in
    let a = c.args in
    let e = eqb-true (rank_key k.result) (rank_key a.k) (sym c.equal.ensures ∙ c.if-equal.true) in
    sym (from_first (fields_of a.file) (rank_of a.file) a.s.now (rank_key a.k) m.result c.requires.0.legal m.ensures (omega arith) (sym k.ensures.rank ∙ e))

pub returns : goal.returns
returns c =
    let a = c.args in
    let m = c.first_from-first in
    let miss = from_miss (fields_of a.file) (rank_of a.file) a.s.now (rank_key a.k) m.result c.requires.0.legal m.ensures c.requires.1 in
    elim c.else-first-s.branch [
      | else-first-s-via-then-first-s+else-equal w ↦
          let k = w.key_at in
          let ne = eqb-false (rank_key k.result) (rank_key a.k) (sym w.equal.ensures ∙ w.if-equal.false) in
          let l = from_rank (fields_of a.file) (rank_of a.file) a.s.now (rank_key a.k) m.result c.requires.0.legal m.ensures in
          sym (miss (λ h. omega (arith, l h, ne, k.ensures.rank)))
      | else-first-s-via-else-first-s w ↦ sym (miss (λ h. absurd (omega arith)))
    ]
