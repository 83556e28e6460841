-- What C is handed of a refusal: its number and place, and nothing else.
use mathlib.Core.Path.{◌≡◌, refl}
use Rattle.file.specs.Answers.{numbered}
use Rattle.file.specs.declared.Refusal.{Refusal}
use Rattle.fault.specs.Answers.{numbered_fault}
use Rattle.fault.proofs.OneResult.{fault_no_values}
use Rattle.fault.specs.declared.Fault.{Fault}
use Rattle.fileresults.specs.Results.{refused_place}
use Rattle.fileresults.specs.declared.Place.{Place}
use Rattle.checkresults.specs.Results.{fields_result, check_result}
use Rattle.checkresults.specs.declared.CheckResult.{CheckResult}
use Rattle.checkresults.specs.declared.FieldsResult.{FieldsResult}

-- a file's own
abbrev pub fields_at : Place → FieldsResult
fields_at p = record { number = p.number; file = p.file; «record» = 0; field = 0; offset = p.offset }

pub refused_fields : (why : Refusal) → fields_at (refused_place (numbered why)) ≡ fields_result (numbered why)
unfolding numbered refused_place fields_result
refused_fields (Refusal.TooLong file) = refl
refused_fields (Refusal.Unfit file at) = refl
refused_fields (Refusal.CutShort file at) = refl
refused_fields Refusal.NoSuch = refl
refused_fields Refusal.NotPermitted = refl
refused_fields Refusal.NoRoom = refl

-- a batch's, which has no counts
abbrev pub check_at : FieldsResult → CheckResult
check_at p = record {
  number = p.number;
  file = p.file;
  «record» = p.«record»;
  field = p.field;
  offset = p.offset;
  stops = 0;
  lines = 0;
  trips = 0;
  trip_stops = 0;
}

pub refused_check : (f : Fault) → check_at (fields_result (numbered_fault f)) ≡ check_result (numbered_fault f)
unfolding fields_result check_result
refused_check f = rw (fault_no_values f)
