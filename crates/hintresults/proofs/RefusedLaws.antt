-- A refused call hands on the batch's own refusal, and no value.
use mathlib.Core.Path.{◌≡◌}
use Rattle.fault.specs.Answers.{numbered_fault}
use Rattle.fault.proofs.OneResult.{fault_no_values}
use Rattle.fault.specs.declared.Fault.{Fault}
use Rattle.checkresults.specs.Results.{fields_result}
use Rattle.checkresults.specs.declared.FieldsResult.{FieldsResult}
use Rattle.hintresults.specs.Results.{hint_result}
use Rattle.hintresults.specs.declared.HintResult.{HintResult}

abbrev pub hint_at : FieldsResult → HintResult
hint_at p = record { number = p.number; file = p.file; «record» = p.«record»; field = p.field; offset = p.offset; written = 0 }

pub refused_hint : (f : Fault) → hint_at (fields_result (numbered_fault f)) ≡ hint_result (numbered_fault f)
unfolding fields_result hint_result
refused_hint f = rw (fault_no_values f)
