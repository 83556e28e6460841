-- `fields::first_fault` meets its contract. The loop's invariant: the first fault from the record at `at` on, which is record k, is the
-- first of all.
use mathlib.Core.Path.{◌≡◌, refl, sym, ap, ◌∙◌, subst}
use mathlib.Core.List.{List}
use Prim.Native.Nat.{ℕ}
use native.Mathlib.Omega.{arith}
use Rattle.file.specs.Files.{fields_of}
use Rattle.walk.specs.Walk.{Parted, cut_record}
use Rattle.walk.proofs.WalkLaws.{none_left}
use Rattle.field.specs.Rules.{meets}
use Rattle.field.specs.Stage.{first_unkind}
use Rattle.rules.specs.Texts.{Kinded}
use Rattle.fields.specs.Check.{numbered_checked}
use Rattle.fields.proofs.StageLaws.{fault_field, fault_rule, fault_none, fault_done}
use Rattle.fields.proofs.first_fault.Goals as goal

-- a record whose n fields are of their kinds, where n is how many the file has
kinded : (file n : ℕ) (s places : List ℕ) → n ≡ fields_of file → Parted n s places → first_unkind file 1 (cut_record n s places) ≡ 0 → Kinded file s places
kinded file n s places e p k = record { parted = subst (λ (m : ℕ). Parted m s places) e p; kinds = subst (λ (m : ℕ). first_unkind file 1 (cut_record m s places) ≡ 0) e k }

meeting : (file n : ℕ) (s places : List ℕ) (r : mathlib.Core.Bool.Bool) → n ≡ fields_of file → r ≡ meets file (cut_record (fields_of file) s places) → r ≡ meets file (cut_record n s places)
meeting file n s places r e h = h ∙ ap (λ (m : ℕ). meets file (cut_record m s places)) (sym e)

pub returns-then-f-ne0 : goal.returns-then-f-ne0
unfolding numbered_checked
returns-then-f-ne0 c =
    let l = c.loop-at in
    let a = c.args in
    sym (fault_field a.file l.k _ _ _ c.cut-next.ensures.rest _ c.first_unkind-f.ensures c.if-f-ne0.true) ∙ l.invariant.3

pub meets_rules-requires : goal.meets_rules-requires
meets_rules-requires c =
    kinded c.args.file c.args.n c.args.s.now _ c.requires.fields c.cut-next.ensures.parted (sym c.first_unkind-f.ensures ∙ c.if-f-ne0.false)

pub returns-then-not-meets_rules : goal.returns-then-not-meets_rules
unfolding numbered_checked
returns-then-not-meets_rules c =
    let l = c.loop-at in
    let a = c.args in
    let m = meeting a.file a.n a.s.now _ _ c.requires.fields c.meets_rules.ensures in
    sym (fault_rule a.file l.k _ _ _ c.cut-next.ensures.rest _ c.first_unkind-f.ensures c.if-f-ne0.false (sym m ∙ c.if-not-meets_rules.true)) ∙ l.invariant.3

pub loop-at-preserved : goal.loop-at-preserved
loop-at-preserved c =
    let l = c.loop-at in
    let a = c.args in
    let x = c.cut-next.ensures in
    let m = meeting a.file a.n a.s.now _ _ c.requires.fields c.meets_rules.ensures in
    let f = fault_none a.file l.k _ _ _ x.rest _ c.first_unkind-f.ensures c.if-f-ne0.false (sym m ∙ c.if-not-meets_rules.false) in
    (omega (arith, l.invariant.0, x.far), x.near, x.legal, sym f ∙ l.invariant.3)

pub returns : goal.returns
unfolding numbered_checked
returns c =
    let l = c.loop-at in
    let a = c.args in
    sym (fault_done a.file l.k _ (none_left a.n a.s.now l.at c.loop-at-test.false)) ∙ l.invariant.3

pub loop-at-init : goal.loop-at-init
loop-at-init c = (omega arith, omega arith, c.requires.legal, refl)

pub cut-next-requires : goal.cut-next-requires
cut-next-requires c = let l = c.loop-at in
    record { legal = l.invariant.2; more = c.loop-at-test.true; room = c.requires.few }

pub first_unkind-f-requires : goal.first_unkind-f-requires
first_unkind-f-requires c = c.cut-next.ensures.parted

pub overflow_add-k : goal.overflow_add-k
overflow_add-k c = omega (arith, c.loop-at.invariant.0, c.loop-at.invariant.1, c.cut-next.ensures.far, c.cut-next.ensures.near)

pub loop-at-smaller : goal.loop-at-smaller
loop-at-smaller c = let x = c.cut-next.ensures in omega (arith, x.far, x.near)
