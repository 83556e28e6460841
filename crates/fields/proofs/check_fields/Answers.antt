-- `fields::check_fields` meets its contract: the file's own refusal comes first, and a count tells that the file is legal.
use mathlib.Core.Path.{refl, sym, ap, ◌∙◌}
use Prim.Native.Nat.{ℕ}
use borrow.Author.Tests.{eq-eqb, ne_eqb}
use Rattle.file.specs.Answers.{numbered_counted}
use Rattle.file.proofs.AnswerLaws.{CountedIn, asked_own, asked_whole, asked_read}
use Rattle.field.specs.Stage.{field_fault}
use Rattle.file.specs.Records.{records_in}
use Rattle.fields.specs.Check.{numbered_checked, fault_in}
use Rattle.fields.proofs.StageLaws.{ready}
use Rattle.fields.proofs.check_fields.Goals as goal

pub first_fault-requires : goal.first_fault-requires
unfolding numbered_counted
first_fault-requires c =
    let a = c.args in
    let l : CountedIn a.file a.s.now c.in-Ok-2.field-0 = asked_whole a.file a.s.now c.in-Ok-2.field-0 (rw c.in-Ok-2.is at c.records.ensures) in
    ready a.file c.fields_of.result a.s.now c.in-Ok-2.field-0 c.fields_of.ensures l.file_is l.whole

pub returns-in-Err : goal.returns-in-Err
unfolding numbered_checked numbered_counted fault_in
returns-in-Err c =
    let a = c.args in
    asked_own a.file a.s.now (fault_in a.file a.s.now) (λ at. refl) (λ at. refl) _ (rw c.in-Err.is at c.records.ensures)

pub returns-in-Ok : goal.returns-in-Ok
unfolding numbered_checked fault_in numbered_counted
returns-in-Ok c =
    let a = c.args in
    let l : CountedIn a.file a.s.now c.in-Ok.field-0 = asked_whole a.file a.s.now c.in-Ok.field-0 (rw c.in-Ok.is at c.records.ensures) in
    let r = asked_read (fault_in a.file a.s.now) a.file a.s.now l.file_is l.short _ (sym l.whole) in
    rw (eq-eqb a.file 1 c.if-file-eq1.true) at r

pub returns-in-Ok-2 : goal.returns-in-Ok-2
unfolding fault_in numbered_counted
returns-in-Ok-2 c =
    let a = c.args in
    let l : CountedIn a.file a.s.now c.in-Ok-2.field-0 = asked_whole a.file a.s.now c.in-Ok-2.field-0 (rw c.in-Ok-2.is at c.records.ensures) in
    let r = asked_read (fault_in a.file a.s.now) a.file a.s.now l.file_is l.short _ (sym l.whole) in
    c.first_fault.ensures ∙ ap (λ (n : ℕ). field_fault a.file (records_in n a.s.now)) c.fields_of.ensures ∙ (rw (ne_eqb a.file 1 c.if-file-eq1.false) at r)
