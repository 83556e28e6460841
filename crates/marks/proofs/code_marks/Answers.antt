-- `marks::code_marks` meets its contract. The loop's invariant: what came and what is left of the codes are all of them.
use Prim.Native.Nat.{ℕ, ◌-◌}
use native.Mathlib.Omega.{arith}
use Rattle.file.specs.Files.{fields_of}
use Rattle.file.specs.Format.{Fields}
use Rattle.file.specs.Records.{records_in}
use Rattle.link.specs.Signs.{sign_in}
use Rattle.rules.specs.Texts.{texts}
use Rattle.marks.proofs.MarkLaws.{coming_first, coming_next, coming_last}
use Rattle.marks.proofs.code_marks.Goals as goal

pub loop-i-init : goal.loop-i-init
loop-i-init c =
    let a = c.args in
    let sign : ℕ → ℕ = λ k. sign_in (records_in (fields_of 3) a.f3.now) k in
    coming_first sign a.from a.to (texts a.file a.row.bytes.now a.row.places.now) _ c.no_marks-m.ensures

pub code_sign-requires : goal.code_sign-requires
code_sign-requires c =
    let p = c.requires in
    (p.0, p.1 c.loop-i.i (omega arith) (omega arith), p.3)

pub loop-i-preserved : goal.loop-i-preserved
loop-i-preserved c =
    let sign : ℕ → ℕ = λ k. sign_in (records_in (fields_of 3) c.args.f3.now) k in
    let cut : Fields = texts c.args.file c.args.row.bytes.now c.args.row.places.now in
    let a = c.args in
    coming_next sign c.loop-i.i a.to cut _ _ c.loop-i.invariant (omega arith) _ c.code_sign.ensures _ c.marked-m.ensures

pub returns : goal.returns
returns c =
    let sign : ℕ → ℕ = λ k. sign_in (records_in (fields_of 3) c.args.f3.now) k in
    let cut : Fields = texts c.args.file c.args.row.bytes.now c.args.row.places.now in
    let a = c.args in
    coming_last sign c.loop-i.i a.to cut _ _ c.loop-i.invariant (omega arith)
