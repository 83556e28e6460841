-- `search::at_entry` meets its contract: the first entry whose key isn't below k has it, or none does.
use mathlib.Core.Path.{sym, ◌∙◌}
use native.Mathlib.Omega.{arith}
use borrow.Author.Tests.{eqb-true, eqb-false}
use lib.ListN.{get_or}
use Rattle.keys.specs.Ranks.{rank_key}
use Rattle.keys.proofs.KeyFileLaws.{key_here}
use Rattle.seek.proofs.SeekLaws.{entry_place, lower_hit, lower_miss}
use Rattle.search.proofs.at_entry.Goals as goal

pub returns-then-i-order : goal.returns-then-i-order
returns-then-i-order c =
    let a = c.args in
    sym (lower_miss a.file a.s.now a.order.now c.requires.1 c.requires.0 (rank_key a.k) a.i c.requires.2 (λ h e. omega arith))

pub key_at-requires : goal.key_at-requires
key_at-requires c =
    let a = c.args in
    let w = entry_place a.file a.s.now a.order.now c.requires.1 a.i (omega arith) in
    key_here a.file a.s.now (get_or a.order.now a.i 0) c.requires.0 w.0 w.1

pub returns-then-equal : goal.returns-then-equal
returns-then-equal c =
    let k = c.key_at in
    let a = c.args in
    let e = eqb-true (rank_key k.result) (rank_key a.k) (sym c.equal.ensures ∙ c.if-equal.true) in
    sym (lower_hit a.file a.s.now a.order.now c.requires.1 c.requires.0 (rank_key a.k) a.i c.requires.2 (omega arith) (sym k.ensures.rank ∙ e))

pub returns : goal.returns
returns c =
    let k = c.key_at in
    let a = c.args in
    let e = eqb-false (rank_key k.result) (rank_key a.k) (sym c.equal.ensures ∙ c.if-equal.false) in
    sym (lower_miss a.file a.s.now a.order.now c.requires.1 c.requires.0 (rank_key a.k) a.i c.requires.2 (λ h z. e (k.ensures.rank ∙ z)))

pub overflow_cast-place : goal.overflow_cast-place
overflow_cast-place c = omega (arith, c.type_inv.order c.args.i)
