-- `daysigns::has_day_sign` meets its contract. The loop's invariant: whether one of the signs that are left is a day sign is whether one of all is.
use mathlib.Core.Path.{◌≡◌}
use Rattle.signs.specs.Signs.{is_day_sign}
use Rattle.file.specs.Files.{fields_of}
use Rattle.file.specs.Records.{records_in}
use Rattle.link.specs.Signs.{sign_in, codes_file}
use Rattle.rules.specs.Texts.{texts}
use Rattle.trip.specs.Stage.{trips_file}
use Rattle.daysigns.proofs.SignLaws.{signs_left}
use Rattle.daysigns.proofs.has_day_sign.Given as goal

abbrev pub invariant-loop-i : goal.invariant-loop-i
invariant-loop-i l = let left = signs_left (λ x. is_day_sign x) (λ c. sign_in (records_in (fields_of codes_file) l.f3) c) (texts trips_file l.row.bytes.now l.row.places.now) in
    left l.i ≡ left 2
