-- `reader::text_of` meets its contract: what the file lacks is refused, and what it has is among its texts.
use mathlib.Core.Path.{ap, ◌∙◌}
use native.Mathlib.Omega.{arith}
use Rattle.std.specs.Prelude.{Ok}
use Rattle.file.specs.Answers.{numbered, numbered_stretch}
use Rattle.file.specs.Reader.{text_after}
use Rattle.file.specs.declared.Stretch.{Stretch}
use Rattle.file.proofs.AskLaws.{few, sought, asked_in, asked_no_record, asked_no_field, among_zero, among_over}
use Rattle.reader.proofs.text_of.Goals as goal
use Rattle.reader.proofs.text_of.Goals.{then-r-eq0-via-then-r-eq0, then-r-eq0-via-else-r-eq0+then-r-k, then-r-eq0-via-else-r-eq0+else-r-k+then-f-eq0, then-r-eq0-via-else-r-eq0+else-r-k+else-f-eq0+then-f-n}

pub returns-then-r-eq0 : goal.returns-then-r-eq0
unfolding numbered_stretch numbered
returns-then-r-eq0 c =
    let a = c.args in
    elim c.then-r-eq0.branch [
      | then-r-eq0-via-then-r-eq0 w ↦ (asked_no_record a.n a.s.now a.k a.r a.f (among_zero a.k a.r w.if-r-eq0.true), tt)
      | then-r-eq0-via-else-r-eq0+then-r-k w ↦ (asked_no_record a.n a.s.now a.k a.r a.f (among_over a.k a.r w.if-r-k.true), tt)
      | then-r-eq0-via-else-r-eq0+else-r-k+then-f-eq0 w ↦ (asked_no_field a.n a.s.now a.k a.r a.f (among_zero a.n a.f w.if-f-eq0.true), tt)
      | then-r-eq0-via-else-r-eq0+else-r-k+else-f-eq0+then-f-n w ↦ (asked_no_field a.n a.s.now a.k a.r a.f (among_over a.n a.f w.if-f-n.true), tt)
    ]

pub overflow_mul-rows : goal.overflow_mul-rows
overflow_mul-rows c =
    let a = c.args in
    let t = few a.n a.s.now a.k a.r a.f c.requires (omega arith) c.if-r-k.false (omega arith) c.if-f-n.false in
    omega (arith, t.rows)

pub overflow_add-rows : goal.overflow_add-rows
overflow_add-rows c =
    let a = c.args in
    let t = few a.n a.s.now a.k a.r a.f c.requires (omega arith) c.if-r-k.false (omega arith) c.if-f-n.false in
    omega (arith, t.has, t.all)

pub text_after-requires : goal.text_after-requires
text_after-requires c =
    let a = c.args in
    sought a.n a.s.now a.k a.r a.f c.requires (omega arith) c.if-r-k.false (omega arith) c.if-f-n.false

pub returns : goal.returns
unfolding numbered_stretch text_after
returns c =
    let a = c.args in
    let e = c.text_after.ensures in
    (ap (λ (x : Stretch). numbered_stretch (Ok x)) e.0 ∙ asked_in a.n a.s.now a.k a.r a.f c.requires (omega arith) c.if-r-k.false (omega arith) c.if-f-n.false, e.1)
