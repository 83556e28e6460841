-- `marks::has_code` meets its contract. The loop's invariant: whether one of the codes that are left has the sign is whether one of all has.
use mathlib.Core.Path.{refl, sym, ◌∙◌}
use Prim.Native.Nat.{ℕ, ◌-◌}
use native.Mathlib.Omega.{arith}
use Rattle.file.specs.Files.{fields_of}
use Rattle.file.specs.Format.{Fields}
use Rattle.file.specs.Records.{records_in}
use Rattle.link.specs.Signs.{sign_in}
use Rattle.rules.specs.Texts.{texts}
use Rattle.marks.proofs.MarkLaws.{codes_here, codes_past, codes_none}
use Rattle.marks.proofs.has_code.Goals as goal

pub code_sign-requires : goal.code_sign-requires
code_sign-requires c =
    let p = c.requires in
    (p.1, p.2 c.loop-i.i (omega arith) (omega arith), p.4)

pub returns-then-code_sign-x : goal.returns-then-code_sign-x
returns-then-code_sign-x c =
    let sign : ℕ → ℕ = λ k. sign_in (records_in (fields_of 3) c.args.f3.now) k in
    let cut : Fields = texts c.args.file c.args.row.bytes.now c.args.row.places.now in
    let a = c.args in
    sym (codes_here sign a.x c.loop-i.i a.to cut c.requires.0 (omega arith) _ c.code_sign.ensures c.if-code_sign-x.true)
    ∙ c.loop-i.invariant

pub loop-i-preserved : goal.loop-i-preserved
loop-i-preserved c =
    let sign : ℕ → ℕ = λ k. sign_in (records_in (fields_of 3) c.args.f3.now) k in
    let cut : Fields = texts c.args.file c.args.row.bytes.now c.args.row.places.now in
    let a = c.args in
    sym (codes_past sign a.x c.loop-i.i a.to cut c.requires.0 (omega arith) _ c.code_sign.ensures c.if-code_sign-x.false) ∙ c.loop-i.invariant

pub returns : goal.returns
returns c =
    let sign : ℕ → ℕ = λ k. sign_in (records_in (fields_of 3) c.args.f3.now) k in
    let cut : Fields = texts c.args.file c.args.row.bytes.now c.args.row.places.now in
    let a = c.args in
    sym (codes_none sign a.x c.loop-i.i a.to cut c.requires.0 (omega arith)) ∙ c.loop-i.invariant
