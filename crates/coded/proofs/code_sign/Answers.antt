-- `coded::code_sign` meets its contract: a code that is given is a number, and its sign is looked up.
use mathlib.Core.Path.{sym, ◌∙◌}
use native.Mathlib.Omega.{arith}
use borrow.Author.Tests.{eqb-false}
use Rattle.coded.proofs.CodeLaws.{code_is, code_number}
use Rattle.coded.proofs.code_sign.Goals as goal

pub part-text-requires : goal.part-text-requires
part-text-requires c =
    c.requires.0.parted _ (omega (arith, c.requires.1.2))

pub returns-then-is_empty : goal.returns-then-is_empty
returns-then-is_empty c =
    let a = c.args in
    let e = code_is a.file a.row.bytes.now a.row.places.now a.i c.requires.0 c.requires.1 _ c.part-text.ensures in
    rw (e, sym c.if-is_empty.ensures)

pub value_of-requires : goal.value_of-requires
value_of-requires c =
    let a = c.args in
    let n = code_number a.file a.row.bytes.now a.row.places.now a.i c.requires.0 c.requires.1 _ c.part-text.ensures (eqb-false _ _ (sym c.if-is_empty.ensures)) in
    (n.digits, n.most)

pub sign_in-requires : goal.sign_in-requires
sign_in-requires c =
    let a = c.args in
    let n = code_number a.file a.row.bytes.now a.row.places.now a.i c.requires.0 c.requires.1 _ c.part-text.ensures (eqb-false _ _ (sym c.if-is_empty.ensures)) in
    (rw c.value_of.ensures n.small, c.requires.2)

pub returns : goal.returns
returns c =
    let a = c.args in
    let e = code_is a.file a.row.bytes.now a.row.places.now a.i c.requires.0 c.requires.1 _ c.part-text.ensures in
    rw (e, sym c.if-is_empty.ensures) (c.sign_in.ensures ∙ rw c.value_of.ensures)
