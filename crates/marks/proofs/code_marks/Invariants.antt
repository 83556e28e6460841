-- `marks::code_marks` meets its contract. The loop's invariant: what came and what is left of the codes are all of them.
use Prim.Native.Nat.{ℕ, ◌+◌, ◌-◌}
use Rattle.file.specs.Files.{fields_of}
use Rattle.file.specs.Records.{records_in}
use Rattle.link.specs.Signs.{sign_in}
use Rattle.rules.specs.Texts.{texts}
use Rattle.trip.specs.View.{signs_from}
use Rattle.marks.proofs.MarkLaws.{Coming}
use Rattle.marks.proofs.code_marks.Given as goal

abbrev pub invariant-loop-i : goal.invariant-loop-i
invariant-loop-i l = let sign : ℕ → ℕ = λ c. sign_in (records_in (fields_of 3) l.f3) c in
    Coming sign l.i l.to (texts l.file l.row.bytes.now l.row.places.now) (signs_from sign (l.from + 1) (l.to - l.from) (texts l.file l.row.bytes.now l.row.places.now)) l.m
