-- `rules::has_code` meets its contract: the codes are looked at one by one.
use mathlib.Core.Path.{sym, ◌∙◌}
use native.Mathlib.Omega.{arith}
use lib.ListN.{length}
use borrow.Author.Tests.{eqb-true, eqb-false}
use Rattle.file.specs.Files.{fields_of, field_counts}
use Rattle.rules.proofs.KindLaws.{text_at}
use Rattle.rules.proofs.RuleLaws.{code_here, code_past, code_none}
use Rattle.rules.proofs.has_code.Goals as goal

pub returns-then-not-is_empty : goal.returns-then-not-is_empty
unfolding fields_of field_counts
returns-then-not-is_empty c =
    let t = c.part.result.now in
    let some = eqb-false (length t) 0 (sym c.is_empty.ensures ∙ c.if-not-is_empty.true) in
    sym (code_here _ 9 c.loop-i.i c.loop-i-test.true t (text_at c.requires c.loop-i.i (omega arith) c.part.ensures) some) ∙ c.loop-i.invariant

pub loop-i-preserved : goal.loop-i-preserved
unfolding fields_of field_counts
loop-i-preserved c =
    let t = c.part.result.now in
    let none = eqb-true (length t) 0 (sym c.is_empty.ensures ∙ c.if-not-is_empty.false) in
    sym (code_past _ 9 c.loop-i.i c.loop-i-test.true t (text_at c.requires c.loop-i.i (omega arith) c.part.ensures) none) ∙ c.loop-i.invariant

pub returns : goal.returns
returns c = sym (code_none _ 9 _ (omega arith)) ∙ c.loop-i.invariant
