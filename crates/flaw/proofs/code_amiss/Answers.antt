-- `flaw::code_amiss` meets its contract: an empty code links to nothing; any other is looked for, and the record that is found has its
-- sign.
use mathlib.Core.Path.{refl, sym, ◌∙◌}
use native.Mathlib.Omega.{arith}
use borrow.Author.Tests.{eqb-false}
use Rattle.file.specs.Format.{Fields}
use Rattle.thirteen.specs.Batch.{Batch, file_in, records_of}
use Rattle.thirteen.specs.Lent.{batch_of}
use Rattle.keys.specs.Keys.{key_fields, key_table}
use Rattle.rules.specs.Texts.{texts}
use Rattle.link.specs.Signs.{sign_of}
use Rattle.amiss.proofs.RecordLaws.{code_part, code_is_empty, code_number, key_file, kind_file, code_there, record_later}
use Rattle.amiss.proofs.AmissLaws.{one_key, found_has, nothing_has, code_empty, code_none, code_found}
use Rattle.flaw.proofs.code_amiss.Goals as goal

pub part-text-requires : goal.part-text-requires
part-text-requires c = c.requires.0.kinded.parted _ (omega (arith, c.requires.1.1, c.requires.1.2))

pub returns-then-is_empty : goal.returns-then-is_empty
returns-then-is_empty c =
    let a = c.args in
    let r : Fields = texts a.file a.row.bytes.now a.row.places.now in
    let z = code_is_empty c.requires.0.kinded a.f c.part-text.ensures c.requires.1 c.if-is_empty.ensures in
    (code_empty (batch_of a.files.now) a.file a.f r (sym c.requires.2) z, c.requires.0.known.looks.lasts)

pub value_of-requires : goal.value_of-requires
value_of-requires c =
    let n = code_part c.requires.0.kinded c.args.f c.part-text.ensures c.requires.1 (eqb-false _ _ (sym c.if-is_empty.ensures)) in
    (n.digits, n.most)

pub look_one-requires : goal.look_one-requires
unfolding key_fields key_table
look_one-requires c =
    let n = code_part c.requires.0.kinded c.args.f c.part-text.ensures c.requires.1 (eqb-false _ _ (sym c.if-is_empty.ensures)) in
    (c.requires.0.known.looks, (omega arith, omega arith), refl, rw c.value_of.ensures n.small)

pub sign_at-requires : goal.sign_at-requires
unfolding file_in
sign_at-requires c =
    let k = c.requires.0.known in
    let h = code_there k c.value_of.result _ (sym c.look_one.ensures.0 ∙ c.in-Some.is) in
    (key_file k 3 (omega arith, omega arith), kind_file k 3 (omega arith, omega arith), h.place, h.within)

pub sign_amiss-requires : goal.sign_amiss-requires
unfolding file_in sign_of
sign_amiss-requires c =
    let kinded = c.requires.0.kinded in
    let given = code_is_empty kinded c.args.f c.part-text.ensures c.requires.1 c.if-is_empty.ensures in
    let number = code_number kinded c.args.f c.part-text.ensures c.requires.1 c.value_of.ensures in
    let h = code_there c.requires.0.known c.value_of.result _ (sym c.look_one.ensures.0 ∙ c.in-Some.is) in (
      record_later c.requires.0 _ c.look_one.ensures.1,
      c.requires.1,
      rw given,
      rw (← number) (c.sign_at.ensures ∙ sym h.sign),
    )

pub returns-in-Some : goal.returns-in-Some
returns-in-Some c =
    let a = c.args in
    let b : Batch = batch_of a.files.now in
    let r : Fields = texts a.file a.row.bytes.now a.row.places.now in
    let kinded = c.requires.0.kinded in
    let given = code_is_empty kinded a.f c.part-text.ensures c.requires.1 c.if-is_empty.ensures in
    let number = code_number kinded a.f c.part-text.ensures c.requires.1 c.value_of.ensures in
    let h = found_has 3 (records_of b 3) (one_key a.f c.value_of.result r number) c.look_one.ensures.0 _ c.in-Some.is in
    (c.sign_amiss.ensures.0 ∙ code_found b a.file a.f r (sym c.requires.2) given h, c.sign_amiss.ensures.1)

pub returns-in-None : goal.returns-in-None
returns-in-None c =
    let a = c.args in
    let b : Batch = batch_of a.files.now in
    let r : Fields = texts a.file a.row.bytes.now a.row.places.now in
    let kinded = c.requires.0.kinded in
    let given = code_is_empty kinded a.f c.part-text.ensures c.requires.1 c.if-is_empty.ensures in
    let number = code_number kinded a.f c.part-text.ensures c.requires.1 c.value_of.ensures in
    let h = nothing_has 3 (records_of b 3) (one_key a.f c.value_of.result r number) c.look_one.ensures.0 c.in-None.is in
    (code_none b a.file a.f r (sym c.requires.2) given h, c.look_one.ensures.1)
