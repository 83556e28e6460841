-- `daysigns::signs_allow` meets its contract. The loop's invariant: whether one of the signs that are left fits day d is whether one of all does.
use mathlib.Core.Path.{◌≡◌}
use Rattle.signs.specs.Signs.{sign_fits}
use Rattle.file.specs.Files.{fields_of}
use Rattle.file.specs.Records.{records_in}
use Rattle.link.specs.Signs.{sign_in, codes_file}
use Rattle.rules.specs.Texts.{texts}
use Rattle.trip.specs.Stage.{trips_file}
use Rattle.daysigns.proofs.SignLaws.{signs_left}
use Rattle.daysigns.proofs.signs_allow.Given as goal

abbrev pub invariant-loop-i : goal.invariant-loop-i
invariant-loop-i l = let left = signs_left (λ x. sign_fits x l.d l.holidays) (λ c. sign_in (records_in (fields_of codes_file) l.f3) c) (texts trips_file l.row.bytes.now l.row.places.now) in
    left l.i ≡ left 2
