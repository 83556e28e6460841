-- `search::by_search` meets its contract. The loop's invariant: the first record with the key from the one at `at` on is the first of all.
use mathlib.Core.Path.{refl, sym, ◌∙◌}
use native.Mathlib.Omega.{arith}
use borrow.Author.Tests.{eqb-true, eqb-false}
use Rattle.file.specs.Files.{fields_of}
use Rattle.lines.proofs.LineLaws.{place_start, next_line}
use Rattle.lines.proofs.OrderLaws.{first_hit, first_turn, first_end}
use Rattle.keys.specs.Ranks.{rank_of, rank_key}
use Rattle.keys.proofs.KeyFileLaws.{key_here}
use Rattle.search.proofs.by_search.Goals as goal

pub returns-then-equal : goal.returns-then-equal
returns-then-equal c =
    let a = c.args in
    let l = c.loop-at in
    let k = c.key_at in
    let e = eqb-true (rank_key k.result) (rank_key a.k) (sym c.equal.ensures ∙ c.if-equal.true) in
    sym (first_hit (fields_of a.file) (rank_of a.file) a.s.now l.at (rank_key a.k) l.invariant.0 (omega arith) (sym k.ensures.rank ∙ e)) ∙ l.invariant.1

pub loop-at-preserved : goal.loop-at-preserved
loop-at-preserved c =
    let a = c.args in
    let l = c.loop-at in
    let k = c.key_at in
    let e = eqb-false (rank_key k.result) (rank_key a.k) (sym c.equal.ensures ∙ c.if-equal.false) in
    let n = next_line (fields_of a.file) a.s.now l.at l.invariant.0 (omega arith) c.line_after-at.result c.line_after-at.ensures in
    (n.place, sym (first_turn (fields_of a.file) (rank_of a.file) a.s.now l.at (rank_key a.k) _ _ n (λ h. e (k.ensures.rank ∙ h))) ∙ l.invariant.1)

pub returns : goal.returns
returns c =
    let l = c.loop-at in
    let a = c.args in
    sym (first_end (fields_of a.file) (rank_of a.file) a.s.now l.at (rank_key a.k) c.loop-at-test.false) ∙ l.invariant.1

pub loop-at-init : goal.loop-at-init
loop-at-init c = (place_start _ _ c.requires.0.legal, refl)

pub key_at-requires : goal.key_at-requires
key_at-requires c = key_here _ _ _ c.requires.0 c.loop-at.invariant.0 c.loop-at-test.true

pub equal-requires : goal.equal-requires
equal-requires c = (c.key_at.ensures.low, c.requires.1)

pub loop-at-smaller : goal.loop-at-smaller
loop-at-smaller c = omega (arith, c.line_after-at.ensures)
