-- `filefaults::version_fault` meets its contract: no record, one that is cut and has one text, or more.
use mathlib.Core.Path.{sym, ◌∙◌}
use native.Mathlib.Omega.{arith}
use lib.ListN.{length}
use borrow.Author.Tests.{eqb-true, eqb-false}
use Rattle.walk.proofs.WalkLaws.{none_left, some_left, count_left, cut_text}
use Rattle.fault.specs.Answers.{numbered_fault}
use Rattle.filefaults.proofs.VersionLaws.{version_none, version_more, version_right, version_wrong}
use Rattle.filefaults.proofs.version_fault.Goals as goal

pub returns-then-is_empty : goal.returns-then-is_empty
unfolding numbered_fault
returns-then-is_empty c =
    let s = c.args.s.now in
    let none = eqb-true (length s) 0 (sym c.is_empty.ensures ∙ c.if-is_empty.true) in
    sym (version_none _ (none_left 1 s 0 (omega arith)))

pub cut-next-requires : goal.cut-next-requires
cut-next-requires c =
    let some = eqb-false (length c.args.s.now) 0 (sym c.is_empty.ensures ∙ c.if-is_empty.false) in
    record { legal = c.requires; more = omega arith; room = omega arith }

pub returns-then-next-s : goal.returns-then-next-s
unfolding numbered_fault
returns-then-next-s c =
    let x = c.cut-next.ensures in
    let s = c.args.s.now in
    sym (version_more _ _ _ x.rest (omega (arith, count_left 1 s _ x.legal, some_left 1 s _ x.legal c.if-next-s.true)))

pub returns-then-is_version : goal.returns-then-is_version
unfolding numbered_fault
returns-then-is_version c =
    let x = c.cut-next.ensures in
    let s = c.args.s.now in
    sym (version_right _ _ _ x.rest (none_left 1 s _ c.if-next-s.false) _ (cut_text 1 s _ 0 (omega arith) _ c.part.ensures) (sym c.is_version.ensures ∙ c.if-is_version.true))

pub returns-else-is_version : goal.returns-else-is_version
unfolding numbered_fault
returns-else-is_version c =
    let x = c.cut-next.ensures in
    let s = c.args.s.now in
    sym (version_wrong _ _ _ x.rest (none_left 1 s _ c.if-next-s.false) _ (cut_text 1 s _ 0 (omega arith) _ c.part.ensures) (sym c.is_version.ensures ∙ c.if-is_version.false))

pub part-requires : goal.part-requires
part-requires c = c.cut-next.ensures.parted 0 (omega arith)
