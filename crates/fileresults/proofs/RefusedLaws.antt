-- What C is handed of a refusal: its number and place, and nothing else.
use mathlib.Core.Path.{◌≡◌, refl}
use Rattle.file.specs.Answers.{numbered}
use Rattle.file.specs.declared.Refusal.{Refusal}
use Rattle.fileresults.specs.Results.{refused_place, records_result, stretch_result, write_result}
use Rattle.fileresults.specs.declared.Place.{Place}
use Rattle.fileresults.specs.declared.RecordsResult.{RecordsResult}
use Rattle.fileresults.specs.declared.StretchResult.{StretchResult}
use Rattle.fileresults.specs.declared.WriteResult.{WriteResult}

abbrev pub records_at : Place → RecordsResult
records_at p = record { number = p.number; file = p.file; «record» = 0; field = 0; offset = p.offset; records = 0 }

abbrev pub stretch_at : Place → StretchResult
stretch_at p = record { number = p.number; file = p.file; «record» = 0; field = 0; offset = p.offset; start = 0; length = 0 }

abbrev pub write_at : Place → WriteResult
write_at p = record { number = p.number; place = 0 }

pub refused_records : (why : Refusal) → records_at (refused_place (numbered why)) ≡ records_result (numbered why)
unfolding numbered refused_place records_result
refused_records (Refusal.TooLong file) = refl
refused_records (Refusal.Unfit file at) = refl
refused_records (Refusal.CutShort file at) = refl
refused_records Refusal.NoSuch = refl
refused_records Refusal.NotPermitted = refl
refused_records Refusal.NoRoom = refl

pub refused_stretch : (why : Refusal) → stretch_at (refused_place (numbered why)) ≡ stretch_result (numbered why)
unfolding numbered refused_place stretch_result
refused_stretch (Refusal.TooLong file) = refl
refused_stretch (Refusal.Unfit file at) = refl
refused_stretch (Refusal.CutShort file at) = refl
refused_stretch Refusal.NoSuch = refl
refused_stretch Refusal.NotPermitted = refl
refused_stretch Refusal.NoRoom = refl

pub refused_write : (why : Refusal) → write_at (refused_place (numbered why)) ≡ write_result (numbered why)
unfolding numbered refused_place write_result
refused_write (Refusal.TooLong file) = refl
refused_write (Refusal.Unfit file at) = refl
refused_write (Refusal.CutShort file at) = refl
refused_write Refusal.NoSuch = refl
refused_write Refusal.NotPermitted = refl
refused_write Refusal.NoRoom = refl
