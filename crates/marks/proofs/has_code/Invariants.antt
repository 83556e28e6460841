-- `marks::has_code` meets its contract. The loop's invariant: whether one of the codes that are left has the sign is whether one of all has.
use mathlib.Core.Path.{◌≡◌}
use Prim.Native.Nat.{ℕ, ◌+◌, ◌-◌}
use Rattle.file.specs.Files.{fields_of}
use Rattle.file.specs.Records.{records_in}
use Rattle.link.specs.Signs.{sign_in, is_in}
use Rattle.rules.specs.Texts.{texts}
use Rattle.trip.specs.View.{signs_from}
use Rattle.marks.proofs.has_code.Given as goal

abbrev pub invariant-loop-i : goal.invariant-loop-i
invariant-loop-i l = let sign : ℕ → ℕ = λ c. sign_in (records_in (fields_of 3) l.f3) c in
    is_in l.x (signs_from sign (l.i + 1) (l.to - l.i) (texts l.file l.row.bytes.now l.row.places.now)) ≡ is_in l.x (signs_from sign (l.from + 1) (l.to - l.from) (texts l.file l.row.bytes.now l.row.places.now))
