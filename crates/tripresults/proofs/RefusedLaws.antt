-- A refused question hands on the batch's own refusal, and no value.
use mathlib.Core.Path.{◌≡◌}
use Rattle.fault.specs.Answers.{numbered_fault}
use Rattle.fault.proofs.OneResult.{fault_no_values}
use Rattle.fault.specs.declared.Fault.{Fault}
use Rattle.checkresults.specs.Results.{fields_result}
use Rattle.checkresults.specs.declared.FieldsResult.{FieldsResult}
use Rattle.tripresults.specs.Results.{runs_result, stop_result, plain_stop_result}
use Rattle.tripresults.specs.declared.RunsResult.{RunsResult}
use Rattle.tripresults.specs.declared.TripStopResult.{TripStopResult}

abbrev pub runs_at : FieldsResult → RunsResult
runs_at p = record { number = p.number; file = p.file; «record» = p.«record»; field = p.field; offset = p.offset; runs = 0 }

pub refused_runs : (f : Fault) → runs_at (fields_result (numbered_fault f)) ≡ runs_result (numbered_fault f)
unfolding fields_result runs_result
refused_runs f = rw (fault_no_values f)

abbrev pub stop_at_place : FieldsResult → TripStopResult
stop_at_place p = plain_stop_result p.number p.file p.«record» p.field p.offset

pub refused_stop : (f : Fault) → stop_at_place (fields_result (numbered_fault f)) ≡ stop_result (numbered_fault f)
unfolding fields_result stop_result
refused_stop f = rw (fault_no_values f)
