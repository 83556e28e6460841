-- `flaw::sign_amiss` meets its contract: the tests are those of the definition, and Zasspoje's first code is one of the record's
-- fields.
use mathlib.Core.Path.{sym, ap, ◌∙◌}
use Prim.Native.Nat.{ℕ}
use native.Mathlib.Omega.{arith}
use borrow.Author.Tests.{eqb-false}
use Rattle.file.specs.Format.{Fields}
use Rattle.thirteen.specs.Batch.{Batch}
use Rattle.thirteen.specs.Lent.{batch_of}
use Rattle.rules.specs.Texts.{texts}
use Rattle.link.specs.Signs.{sign_of}
use Rattle.amiss.proofs.RecordLaws.{code_part, code_is_empty, code_number, first_code}
use Rattle.amiss.proofs.AmissLaws.{is_second, is_other, sign_refused, sign_alone, sign_first, sign_same, sign_other}
use Rattle.flaw.proofs.sign_amiss.Goals as goal
use Rattle.flaw.proofs.sign_amiss.Goals.{then-is_empty-via-then-is_empty, then-is_empty-via-else-is_empty+then-sign_of-sign}

pub returns-then-not-is_permitted : goal.returns-then-not-is_permitted
returns-then-not-is_permitted c =
    let a = c.args in
    let r : Fields = texts a.file a.row.bytes.now a.row.places.now in
    let p = sym c.is_permitted.ensures ∙ c.if-not-is_permitted.true in
    (sign_refused (batch_of a.files.now) a.file a.f r c.requires.2 c.requires.3 p, c.requires.0.known.looks.lasts)

pub returns-then-file-ne8 : goal.returns-then-file-ne8
returns-then-file-ne8 c =
    let a = c.args in
    let r : Fields = texts a.file a.row.bytes.now a.row.places.now in
    let p = sym c.is_permitted.ensures ∙ c.if-not-is_permitted.false in
    let h = is_other a.file a.f c.then-file-ne8.either in
    (sign_alone (batch_of a.files.now) a.file a.f r c.requires.2 c.requires.3 p h, c.requires.0.known.looks.lasts)

pub part-first-requires : goal.part-first-requires
part-first-requires c =
    c.requires.0.kinded.parted 5 (omega (arith, (first_code c.args.file c.if-file-ne8.false).2))

pub returns-then-is_empty : goal.returns-then-is_empty
returns-then-is_empty c =
    let a = c.args in
    let b : Batch = batch_of a.files.now in
    let r : Fields = texts a.file a.row.bytes.now a.row.places.now in
    let k = c.requires.0.kinded in
    let p = sym c.is_permitted.ensures ∙ c.if-not-is_permitted.false in
    let n = first_code a.file c.if-file-ne8.false in
    let h = is_second a.file a.f c.if-file-ne8.false c.if-f-ne7.false in
    elim c.then-is_empty.branch [
      | then-is_empty-via-then-is_empty w ↦ (
        sign_first b a.file a.f r c.requires.2 c.requires.3 p h (code_is_empty k 6 c.part-first.ensures n w.if-is_empty.ensures),
        rw w.last-is c.requires.0.known.looks.lasts,
      )
      | then-is_empty-via-else-is_empty+then-sign_of-sign w ↦
          let z = code_is_empty k 6 c.part-first.ensures n w.if-is_empty.ensures in
          let number = code_number k 6 c.part-first.ensures n w.value_of.ensures in
          let sign = w.sign_of.ensures.0 ∙ ap (λ (x : ℕ). sign_of b x) number in (
            sign_same b a.file a.f r c.requires.2 c.requires.3 p h z sign w.if-sign_of-sign.true,
            rw w.last-is w.sign_of.ensures.1,
          )
    ]

pub value_of-requires : goal.value_of-requires
value_of-requires c =
    let n = code_part c.requires.0.kinded 6 c.part-first.ensures (first_code c.args.file c.if-file-ne8.false) (eqb-false _ _ (sym c.if-is_empty.ensures)) in
    (n.digits, n.most)

pub sign_of-requires : goal.sign_of-requires
sign_of-requires c =
    let n = code_part c.requires.0.kinded 6 c.part-first.ensures (first_code c.args.file c.if-file-ne8.false) (eqb-false _ _ (sym c.if-is_empty.ensures)) in
    let k = c.requires.0.known in
    (record { sound = k.sound; looks = k.looks; stops = λ e. absurd (omega arith) }, rw c.value_of.ensures n.small)

pub returns : goal.returns
returns c =
    let a = c.args in
    let b : Batch = batch_of a.files.now in
    let r : Fields = texts a.file a.row.bytes.now a.row.places.now in
    let p = sym c.is_permitted.ensures ∙ c.if-not-is_permitted.false in
    let n = first_code a.file c.if-file-ne8.false in
    let z = code_is_empty c.requires.0.kinded 6 c.part-first.ensures n c.if-is_empty.ensures in
    let number = code_number c.requires.0.kinded 6 c.part-first.ensures n c.value_of.ensures in
    let sign = c.sign_of.ensures.0 ∙ ap (λ (x : ℕ). sign_of b x) number in
    let h = is_second a.file a.f c.if-file-ne8.false c.if-f-ne7.false in
    (sign_other b a.file a.f r c.requires.2 c.requires.3 p h z sign c.if-sign_of-sign.false, c.sign_of.ensures.1)
